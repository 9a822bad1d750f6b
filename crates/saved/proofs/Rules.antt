-- Each form is judged by the rules of its own time, and words of any other length are no saved record: so what was broken then is refused now.
use Prim.Native.Nat.{ℕ, ◌<◌}
use native.Mathlib.Omega.{arith}
use mathlib.Core.Path.{◌≡◌, refl, ap, ◌∙◌}
use mathlib.Core.Bool.{false, and-false}
use mathlib.Core.List.{List, [], ◌∷◌}
use lib.Dec.{leb}
use lib.ListN.{length, get_or}
use borrow.Author.Tests.{lt-leb}
use Rattle.ids.specs.Limits.{max_servers, earlier_servers}
use Rattle.server.specs.Record as server
use Rattle.client.specs.Record as client
use Rattle.words.specs.Records.{server_size_of, server_size, client_size, holds_server_of, holds_client_of, server_head_from, client_head_from}
use Rattle.saved.specs.Forms.{earlier_queue, earlier_responses, earlier_size_of, sound_server, sound_client, saved_server, ordered_client, unseen, saved_client}
use Rattle.saved.proofs.FormLaws.{servers, clients, form_1, form_2, no_form}
use Rattle.saved.proofs.Ordered.{ordered_same, unseen-long, as_unseen, no_form_so_long}

module _ (ws : List ℕ) where
  pub server_form_1 : length ws ≡ server_size_of earlier_queue → saved_server ws ≡ sound_server earlier_queue earlier_servers ws
  server_form_1 = form_1 servers ws

  pub server_form_2 : length ws ≡ server_size → saved_server ws ≡ sound_server server.row_words max_servers ws
  server_form_2 = form_2 servers ws

  pub server_no_form : (length ws ≡ server_size_of earlier_queue → ⊥) → (length ws ≡ server_size → ⊥) → saved_server ws ≡ false
  server_no_form = no_form servers ws

  -- a client's from before L4 with nothing seen
  pub client_form_1 : length ws ≡ earlier_size_of earlier_responses → saved_client ws ≡ sound_client earlier_responses earlier_servers (unseen ws)
  client_form_1 l = as_unseen ws (omega (arith, l)) ∙ form_1 clients (unseen ws) (omega (arith, unseen-long ws, l))

  pub client_form_2 : length ws ≡ earlier_size_of client.row_words → saved_client ws ≡ sound_client client.row_words max_servers (unseen ws)
  client_form_2 l = as_unseen ws (omega (arith, l)) ∙ form_2 clients (unseen ws) (omega (arith, unseen-long ws, l))

  pub client_form_3 : length ws ≡ client_size → saved_client ws ≡ sound_client client.row_words max_servers ws
  client_form_3 l = ap (λ (x : List ℕ). ordered_client x) (ordered_same ws l) ∙ form_2 clients ws l

  pub client_no_form : (length ws ≡ earlier_size_of earlier_responses → ⊥) → (length ws ≡ earlier_size_of client.row_words → ⊥) → (length ws ≡ client_size → ⊥)
      → saved_client ws ≡ false
  client_no_form a b c = no_form_so_long ws c a b

  -- so a record of form 1 that says more than 31 servers is broken
  pub server_too_many : length ws ≡ server_size_of earlier_queue → earlier_servers < get_or ws 0 0 → saved_server ws ≡ false
  unfolding sound_server server.valid_up_to server_head_from
  server_too_many l h =
      server_form_1 l ∙ rw (lt-leb (get_or ws 0 0) earlier_servers h, and-false (leb 1 (get_or ws 0 0))) (and-false (holds_server_of earlier_queue ws))

  first-same : (l : List ℕ) → get_or (unseen l) 0 0 ≡ get_or l 0 0
  first-same [] = refl
  first-same (a ∷ l) = refl

  pub client_too_many : length ws ≡ earlier_size_of earlier_responses → earlier_servers < get_or ws 0 0 → saved_client ws ≡ false
  unfolding sound_client client.valid_up_to client_head_from
  client_too_many l h =
      client_form_1 l ∙
      rw (first-same ws, lt-leb (get_or ws 0 0) earlier_servers h, and-false (leb 1 (get_or ws 0 0))) (and-false (holds_client_of earlier_responses (unseen ws)))

-- the words of each form
pub sizes : (server_size_of earlier_queue ≡ 37) × (server_size ≡ 69)
    × (earlier_size_of earlier_responses ≡ 67) × (earlier_size_of client.row_words ≡ 515) × (client_size ≡ 516)
sizes = (refl, refl, refl, refl, refl)
