-- What an accepted step call leaves in the host's words is a valid record again, so that the next call on it is not refused 21.
use Rattle.std.specs.Prelude.{Some}
use Prim.Native.Nat.{ℕ}
use native.Mathlib.Omega.{arith}
use mathlib.Core.Path.{◌≡◌, refl, sym, ◌∙◌}
use mathlib.Core.Bool.{true, false}
use mathlib.Core.List.{List, map}
use mathlib.Core.Logic.{⊎_elim}
use lib.Dec.{ltb}
use lib.ListN.{length, length-map}
use borrow.Author.Tests.{le-ltb}
use Rattle.ids.specs.declared.Refusal.TheVariants.{InvalidRecord, RoomShort}
use Rattle.ids.proofs.Choice.{decided, passed}
use Rattle.wire.specs.Step.{Step, Outcome, refused, stepped, with_room}
use Rattle.server_votes.specs.Figure1 as votes
use Rattle.rows.proofs.RowLaws.{length_row_of}
use Rattle.server.specs.Record as server
use Rattle.server.specs.Calls as server_calls
use Rattle.server.specs.declared.Server.{Server}
use Rattle.client_responses.specs.Figure1 as client-state
use Rattle.client_responses.specs.Row.{place}
use Rattle.client.specs.Record as client
use Rattle.client.specs.Calls as client_calls
use Rattle.client.specs.declared.Client.{Client}
use Rattle.client.proofs.ValidLaws.{valid-padded, padded-words}
use Rattle.client.proofs.KeepsValid.{begin_valid, exit_valid, message-valid}
use Rattle.words.specs.Messages.{message_in, message_or}
use Rattle.words.specs.Records.{server_size, client_size, holds_server, server_from, server_in, holds_client, client_from, client_in}
use Rattle.words.proofs.RecordsLaws.{server-held, server-row, client-held, client-row}
use Rattle.words.proofs.RoundTrip.{server_read_back, client_read_back}
use Rattle.saved.specs.Forms.{saved_server, server_now, ordered, saved_client, client_now}
use Rattle.saved.specs.Taken.{server_today, client_today, saved_as}
use Rattle.saved.proofs.FormLaws.{servers, clients, now-long}
use Rattle.saved.proofs.Taken.{server_taken_over, client_taken_over}
use Rattle.capi.specs.Steps.{in_words, lent, with_counts, on_server, server_with, server_message, server_suspect, server_check, on_client, client_with, client_message, client_begin, client_exit, record_into, upgrade, server_upgrade, client_upgrade}
use Rattle.capi.specs.Inner.{server_outcome, client_outcome}
use Rattle.capi.specs.declared.ServerCall.{ServerCall}
use Rattle.capi.specs.declared.ServerCall.TheVariants.{Message as ServerMessage, Suspect, Check}
use Rattle.capi.specs.declared.ClientCall.{ClientCall}
use Rattle.capi.specs.declared.ClientCall.TheVariants.{Message as ClientMessage, Begin, Exit}
use Rattle.capi.proofs.Accepted.{server-accepted, client-accepted}
use Rattle.sends.proofs.ServerSends.{never}
use Rattle.capi.proofs.StepLaws.{whole, room-stepped, server_takes-words, client_takes-words}

lent-stepped : {A : Type 0} (out sent : List ℕ) (o : Outcome A) (p : Step A) → lent out sent o ≡ stepped p → o ≡ stepped p
lent-stepped {A} out sent o p h = room-stepped (length out) o p (counted (with_room (length out) o) h) where
  counted : (x : Outcome A) → with_counts (length sent) x ≡ stepped p → x ≡ stepped p
  counted (refused e) g = g
  counted (stepped q) g = (passed (ltb (length sent) 2) (never RoomShort p) g).1

-- these words are a valid server
pub record ValidServer (ws : List ℕ) : Type 0 where
  pub held : Server
  pub read : server_in ws ≡ Some held
  pub valid : server.valid held ≡ true

module _ (ws : List ℕ) (call : ServerCall) where
  next-server : (s : Server) (q : Step votes.State) → length s.row ≡ server.row_words → server_outcome call s ≡ stepped q
      → ValidServer (server_with s q.state)
  next-server s q l e =
      let a = server-accepted call s q e in
      record {
        held = server_calls.server_after s (stepped q);
        read = server_read_back (server_calls.server_after s (stepped q)) a.after server.row_words (length_row_of (length s.row) q.state.queue a.room ∙ l);
        valid = a.after;
      }

  from-outcome : (s : Server) (p : Step (List ℕ)) → length s.row ≡ server.row_words → (o : Outcome votes.State) → server_outcome call s ≡ o
      → in_words (server_with s) o ≡ stepped p → ValidServer p.state
  from-outcome s p l (refused e) h g = absurd (never e p g)
  from-outcome s p l (stepped q) h g =
      let z : record { state = server_with s q.state; sent = q.sent } ≡ p = cc in
      rw (← z) (next-server s q l h)

  read-size : (vs : List ℕ) → ValidServer vs → length vs ≡ server_size
  read-size vs W =
      ⊎_elim
      (λ (t : holds_server vs ≡ true). (server-held server.row_words vs t).size)
      (λ (t : holds_server vs ≡ false). let h = rw t at W.read in let z : ◌≡◌ {A = ℕ} 0 1 = cc in absurd (omega arith))
      (decided (holds_server vs))

  server_stays : (p : Step (List ℕ)) → on_server ws (server_outcome call) ≡ stepped p → ValidServer (record_into ws (stepped p))
  unfolding on_server
  server_stays p e =
      ⊎_elim
      (λ (t : holds_server ws ≡ true).
      let W = from-outcome (server_from ws) p (server-row server.row_words ws t) (server_outcome call (server_from ws)) refl (rw t at e) in
      rw (whole ws p.state (read-size p.state W ∙ sym (server-held server.row_words ws t).size)) W)
      (λ (t : holds_server ws ≡ false). absurd (never InvalidRecord p (rw t at e)))
      (decided (holds_server ws))

module _ (ws out sent : List ℕ) (p : Step (List ℕ)) where
  pub server_message_stays_valid : (ms : List ℕ) → lent out sent (server_message ws ms) ≡ stepped p → ValidServer (record_into ws (stepped p))
  server_message_stays_valid ms e =
      server_stays ws (ServerMessage (message_or (message_in ms))) p (server_takes-words ws (message_in ms) (message_or (message_in ms)) refl ∙
      lent-stepped out sent (server_message ws ms) p e)

  pub server_suspect_stays_valid : lent out sent (server_suspect ws) ≡ stepped p → ValidServer (record_into ws (stepped p))
  server_suspect_stays_valid e = server_stays ws Suspect p (lent-stepped out sent (server_suspect ws) p e)

  pub server_check_stays_valid : lent out sent (server_check ws) ≡ stepped p → ValidServer (record_into ws (stepped p))
  server_check_stays_valid e = server_stays ws Check p (lent-stepped out sent (server_check ws) p e)

-- these words are a valid client
pub record ValidClient (ws : List ℕ) : Type 0 where
  pub held : Client
  pub read : client_in ws ≡ Some held
  pub valid : client.valid held ≡ true

kept : (call : ClientCall) (c : Client) (q : Step client-state.State) → client_outcome call c ≡ stepped q
    → client.valid (client_calls.client_after c (stepped q)) ≡ true
kept (ClientMessage m) c q e = message-valid c q (client-accepted (ClientMessage m) c q e).before m e
kept Begin c q e = begin_valid c q (client-accepted Begin c q e).before e
kept Exit c q e = exit_valid c q (client-accepted Exit c q e).before e

module _ (ws : List ℕ) (call : ClientCall) where
  next-client : (c : Client) (q : Step client-state.State) → length c.row ≡ client.row_words → client_outcome call c ≡ stepped q
      → ValidClient (client_with c q.state)
  next-client c q l e =
      let v = kept call c q e in
      let a = client-accepted call c q e in
      let g = padded-words c.row c.head.n (valid-padded c a.before) in
      record {
        held = client_calls.client_after c (stepped q);
        read = client_read_back (client_calls.client_after c (stepped q)) v client.row_words
            (length_row_of (length c.row) (map place q.state.responses) (simp length-map (omega (arith, g, a.long))) ∙ l);
        valid = v;
      }

  from_client_outcome : (c : Client) (p : Step (List ℕ)) → length c.row ≡ client.row_words → (o : Outcome client-state.State)
      → client_outcome call c ≡ o → in_words (client_with c) o ≡ stepped p → ValidClient p.state
  from_client_outcome c p l (refused e) h g = absurd (never e p g)
  from_client_outcome c p l (stepped q) h g =
      let z : record { state = client_with c q.state; sent = q.sent } ≡ p = cc in
      rw (← z) (next-client c q l h)

  client-size : (vs : List ℕ) → ValidClient vs → length vs ≡ client_size
  client-size vs W =
      ⊎_elim
      (λ (t : holds_client vs ≡ true). (client-held client.row_words vs t).size)
      (λ (t : holds_client vs ≡ false). let h = rw t at W.read in let z : ◌≡◌ {A = ℕ} 0 1 = cc in absurd (omega arith))
      (decided (holds_client vs))

  client_stays : (p : Step (List ℕ)) → on_client ws (client_outcome call) ≡ stepped p → ValidClient (record_into ws (stepped p))
  unfolding on_client
  client_stays p e =
      ⊎_elim
      (λ (t : holds_client ws ≡ true).
      let W = from_client_outcome (client_from ws) p (client-row client.row_words ws t) (client_outcome call (client_from ws)) refl (rw t at e) in
      rw (whole ws p.state (client-size p.state W ∙ sym (client-held client.row_words ws t).size)) W)
      (λ (t : holds_client ws ≡ false). absurd (never InvalidRecord p (rw t at e)))
      (decided (holds_client ws))

module _ (ws out sent : List ℕ) (p : Step (List ℕ)) where
  pub client_message_stays_valid : (ms : List ℕ) → lent out sent (client_message ws ms) ≡ stepped p → ValidClient (record_into ws (stepped p))
  client_message_stays_valid ms e =
      client_stays ws (ClientMessage (message_or (message_in ms))) p (client_takes-words ws (message_in ms) (message_or (message_in ms)) refl ∙
      lent-stepped out sent (client_message ws ms) p e)

  pub client_begin_stays_valid : lent out sent (client_begin ws) ≡ stepped p → ValidClient (record_into ws (stepped p))
  client_begin_stays_valid e = client_stays ws Begin p (lent-stepped out sent (client_begin ws) p e)

  pub client_exit_stays_valid : lent out sent (client_exit ws) ≡ stepped p → ValidClient (record_into ws (stepped p))
  client_exit_stays_valid e = client_stays ws Exit p (lent-stepped out sent (client_exit ws) p e)

-- a saved record that is taken over leaves one too
module _ (ws s : List ℕ) where
  pub server_upgrade-valid : saved_server ws ≡ true → length s ≡ server_size → ValidServer (record_into s (server_upgrade ws (length s)))
  unfolding upgrade
  server_upgrade-valid v l =
      let T = server_taken_over ws v in
      rw (v, le-ltb (length s) server_size (omega (arith, l)), whole s (server_now ws) (now-long servers ws v ∙ sym l))
      (record { held = server_today (server_from ws); read = T.read; valid = T.valid })

  pub client_upgrade-valid : saved_client ws ≡ true → length s ≡ client_size → ValidClient (record_into s (client_upgrade ws (length s)))
  unfolding upgrade
  client_upgrade-valid v l =
      let T = client_taken_over ws v in
      rw (v, le-ltb (length s) client_size (omega (arith, l)), whole s (client_now ws) (now-long clients (ordered ws) v ∙ sym l))
      (record { held = client_today (saved_as ws); read = T.read; valid = T.valid })
