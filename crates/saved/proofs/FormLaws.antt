-- The tests of a saved record's words, and the words that it is taken over as, from what the code computes. What holds of a server's words and of a
-- client's is said once, of the two forms of either, a client's in today's order (`Saved`).
use Prim.Native.Nat.{ℕ, ◌+◌, ◌-◌, ◌≤◌, ◌<◌}
use native.Mathlib.Omega.{arith}
use mathlib.Core.Path.{◌≡◌, refl, sym, ap, ◌∙◌}
use mathlib.Core.Bool.{Bool, true, false, ◌||◌, or-true, or-false}
use mathlib.Core.List.{List, [], ◌++◌, append-nil}
use mathlib.Core.Logic.{◌⊎◌, inl, inr, ⊎_elim}
use lib.Dec.{eqb}
use lib.ListN.{length, take, drop, replicate, length-drop, length-append, length-replicate, drop_of_length-le}
use lib.Seq.{sets, sets-eq, take_all, take_at, drop_at, length-take-le}
use borrow.Author.Tests.{eq-eqb, ne_eqb}
use Rattle.std.specs.Prelude.{if◌then◌else◌}
use Rattle.ids.specs.Limits.{max_servers, earlier_servers}
use Rattle.ids.proofs.Choice.{both, decided, holds, fails}
use Rattle.server.specs.Record as server
use Rattle.server.specs.declared.Head.{Head as ServerHead}
use Rattle.client.specs.Record as client
use Rattle.client.specs.declared.Head.{Head as ClientHead}
use Rattle.words.specs.Records.{server_head, client_head, server_size_of, client_size_of, holds_server_of, holds_client_of, Headed, server_head_from, server_from, client_head_from, client_from}
use Rattle.words.proofs.RecordsLaws.{server-held, client-held}
use Rattle.saved.specs.Forms.{earlier_queue, earlier_responses, sound_server, sound_client, saved_server, ordered_client, server_now, wider_client}

-- what is lent behind the head is all that stands there
pub rest : (head : ℕ) (ws : List ℕ) → take (length ws - head) (drop head ws) ≡ drop head ws
rest head ws = take_all (length ws - head) (drop head ws) (omega (arith, length-drop head ws))

-- a record's words: they hold one, and it is valid
module _ (row limit : ℕ) (ws : List ℕ) (x : Bool) where
  module _ (p : x ≡ holds_server_of row ws) where
    pub no_server_lem : x ≡ false → false ≡ sound_server row limit ws
    unfolding sound_server
    no_server_lem t = rw (fails x (holds_server_of row ws) p t)

    module _ (t : x ≡ true) where
      pub server-headed : Headed server_head ws
      server-headed = (server-held row ws (holds x (holds_server_of row ws) p t)).headed

      pub server_five : server_head ≤ length ws
      server_five = server-headed.long

      pub server-judged : (h : ServerHead) (y : Bool) → h ≡ server_head_from ws
          → y ≡ server.valid_up_to limit (server.server_of h (take (length ws - server_head) (drop server_head ws))) → y ≡ sound_server row limit ws
      unfolding sound_server
      server-judged h y e q = q ∙ rw (holds x (holds_server_of row ws) p t, e, rest server_head ws)

  module _ (p : x ≡ holds_client_of row ws) where
    pub no_client_lem : x ≡ false → false ≡ sound_client row limit ws
    unfolding sound_client
    no_client_lem t = rw (fails x (holds_client_of row ws) p t)

    module _ (t : x ≡ true) where
      pub client-headed : Headed client_head ws
      client-headed = (client-held row ws (holds x (holds_client_of row ws) p t)).headed

      pub client_six : client_head ≤ length ws
      client_six = client-headed.long

      pub client-judged : (h : ClientHead) (y : Bool) → h ≡ client_head_from ws
          → y ≡ client.valid_up_to limit (client.client_of h (take (length ws - client_head) (drop client_head ws))) → y ≡ sound_client row limit ws
      unfolding sound_client
      client-judged h y e q = q ∙ rw (holds x (holds_client_of row ws) p t, e, rest client_head ws)

-- two forms of a record, which differ in their places: how long they are, which words are sound in either, and what they become
pub record Saved : Type 0 where
  pub head : ℕ
  pub sound : ℕ → ℕ → List ℕ → Bool
  pub valid : List ℕ → Bool
  pub now : List ℕ → List ℕ
  pub earlier : ℕ
  pub today : ℕ
  pub grows : earlier < today
  pub long : (row limit : ℕ) (ws : List ℕ) → sound row limit ws ≡ true → length ws ≡ head + row
  pub valid-is : (ws : List ℕ) → valid ws ≡ sound earlier earlier_servers ws || sound today max_servers ws
  pub now-is : (ws : List ℕ) → now ws ≡ (if eqb (length ws) (head + earlier) then ws ++ replicate (today - earlier) 0 else ws)

pub server-long : (row limit : ℕ) (ws : List ℕ) → sound_server row limit ws ≡ true → length ws ≡ server_size_of row
unfolding sound_server
server-long row limit ws e = (server-held row ws (both (holds_server_of row ws) (server.valid_up_to limit (server_from ws)) e).0).size

pub server_valid_is : (ws : List ℕ) → saved_server ws ≡ sound_server earlier_queue earlier_servers ws || sound_server server.row_words max_servers ws
unfolding saved_server
server_valid_is ws = refl

pub server_now-is : (ws : List ℕ) → server_now ws ≡ (if eqb (length ws) (server_size_of earlier_queue) then ws ++ replicate (server.row_words - earlier_queue) 0 else ws)
unfolding server_now
server_now-is ws = refl

abbrev pub servers : Saved
servers =
    record {
      head = server_head;
      sound = sound_server;
      valid = saved_server;
      now = server_now;
      earlier = earlier_queue;
      today = server.row_words;
      grows = omega arith;
      long = server-long;
      valid-is = server_valid_is;
      now-is = server_now-is;
    }

pub client-long : (row limit : ℕ) (ws : List ℕ) → sound_client row limit ws ≡ true → length ws ≡ client_size_of row
unfolding sound_client
client-long row limit ws e = (client-held row ws (both (holds_client_of row ws) (client.valid_up_to limit (client_from ws)) e).0).size

pub client_valid_is : (ws : List ℕ) → ordered_client ws ≡ sound_client earlier_responses earlier_servers ws || sound_client client.row_words max_servers ws
unfolding ordered_client
client_valid_is ws = refl

pub client_now-is : (ws : List ℕ) → wider_client ws ≡ (if eqb (length ws) (client_size_of earlier_responses) then ws ++ replicate (client.row_words - earlier_responses) 0 else ws)
unfolding wider_client
client_now-is ws = refl

-- a client whose words stand in today's order
abbrev pub clients : Saved
clients =
    record {
      head = client_head;
      sound = sound_client;
      valid = ordered_client;
      now = wider_client;
      earlier = earlier_responses;
      today = client.row_words;
      grows = omega arith;
      long = client-long;
      valid-is = client_valid_is;
      now-is = client_now-is;
    }

module _ (S : Saved) (ws : List ℕ) where
  -- a test of each form after the other
  pub earlier_sound : (x : Bool) → x ≡ S.sound S.earlier earlier_servers ws → x ≡ true → true ≡ S.valid ws
  earlier_sound x p t = rw (S.valid-is ws, sym p ∙ t)

  pub present_sound : (x y : Bool) → x ≡ S.sound S.earlier earlier_servers ws → x ≡ false → y ≡ S.sound S.today max_servers ws → y ≡ S.valid ws
  present_sound x y p t q = rw (S.valid-is ws, sym p ∙ t) q

  -- a form is told by its length
  pub not_long : (row limit : ℕ) → (length ws ≡ S.head + row → ⊥) → S.sound row limit ws ≡ false
  not_long row limit n =
      ⊎_elim
      (λ (e : S.sound row limit ws ≡ true). absurd (n (S.long row limit ws e)))
      (λ (e : S.sound row limit ws ≡ false). e)
      (decided (S.sound row limit ws))

  pub form_1 : length ws ≡ S.head + S.earlier → S.valid ws ≡ S.sound S.earlier earlier_servers ws
  form_1 l =
      let g = S.grows in
      rw (S.valid-is ws, not_long S.today max_servers (omega (arith, l, g))) (or-false (S.sound S.earlier earlier_servers ws))

  pub form_2 : length ws ≡ S.head + S.today → S.valid ws ≡ S.sound S.today max_servers ws
  form_2 l = let g = S.grows in rw (S.valid-is ws, not_long S.earlier earlier_servers (omega (arith, l, g)))

  pub no_form : (length ws ≡ S.head + S.earlier → ⊥) → (length ws ≡ S.head + S.today → ⊥) → S.valid ws ≡ false
  no_form a b = rw (S.valid-is ws, not_long S.earlier earlier_servers a, not_long S.today max_servers b)

  -- so a valid record has one of them
  pub form : S.valid ws ≡ true
      → ((S.sound S.earlier earlier_servers ws ≡ true) × (length ws ≡ S.head + S.earlier))
      ⊎ ((S.sound S.today max_servers ws ≡ true) × (length ws ≡ S.head + S.today))
  form v =
      ⊎_elim
      (λ (t : S.sound S.earlier earlier_servers ws ≡ true). inl (t, S.long S.earlier earlier_servers ws t))
      (λ (t : S.sound S.earlier earlier_servers ws ≡ false).
      let u : S.sound S.today max_servers ws ≡ true = rw t at (sym (S.valid-is ws) ∙ v) in
      inr (u, S.long S.today max_servers ws u))
      (decided (S.sound S.earlier earlier_servers ws))

  -- and words of form 2 that are sound are valid
  pub second-valid : S.sound S.today max_servers ws ≡ true → S.valid ws ≡ true
  second-valid u = rw (S.valid-is ws, u) (or-true (S.sound S.earlier earlier_servers ws))

  -- the words of form 1 get empty places, those of form 2 stay
  pub first-now : length ws ≡ S.head + S.earlier → S.now ws ≡ ws ++ replicate (S.today - S.earlier) 0
  first-now l = rw (S.now-is ws, eq-eqb (length ws) (S.head + S.earlier) l)

  pub second-now : length ws ≡ S.head + S.today → S.now ws ≡ ws
  second-now l = let g = S.grows in rw (S.now-is ws, ne_eqb (length ws) (S.head + S.earlier) (omega (arith, l, g)))

  -- as the code writes them: the words, and 0 to the record's end
  module _ (v : S.valid ws ≡ true) where
    pub short : length ws ≤ S.head + S.today
    short =
        let g = S.grows in
        ⊎_elim
        (λ (f : (S.sound S.earlier earlier_servers ws ≡ true) × (length ws ≡ S.head + S.earlier)). omega (arith, f.1, g))
        (λ (f : (S.sound S.today max_servers ws ≡ true) × (length ws ≡ S.head + S.today)). omega (arith, f.1))
        (form v)

    pub filled : ws ++ replicate (S.head + S.today - length ws) 0 ≡ S.now ws
    filled =
        ⊎_elim
        (λ (f : (S.sound S.earlier earlier_servers ws ≡ true) × (length ws ≡ S.head + S.earlier)).
        let z : S.head + S.today - length ws ≡ S.today - S.earlier = omega (arith, f.1) in
        rw z (sym (first-now f.1)))
        (λ (f : (S.sound S.today max_servers ws ≡ true) × (length ws ≡ S.head + S.today)).
        let z : S.head + S.today - length ws ≡ 0 = omega (arith, f.1) in
        rw z (append-nil ws ∙ sym (second-now f.1)))
        (form v)

    pub now-long : length (S.now ws) ≡ S.head + S.today
    now-long =
        sym (ap length filled) ∙
        omega (
          arith,
          length-append ws (replicate (S.head + S.today - length ws) 0),
          length-replicate {A = ℕ} (S.head + S.today - length ws) 0,
          short,
        )

    -- what `widen` asks, and what it leaves in the first words of s
    module _ (s : List ℕ) (h : S.head + S.today ≤ length s) where
      pub room : length ws ≤ length (take (S.head + S.today) s)
      room = omega (arith, length-take-le (S.head + S.today) s h, short)

      pub taken : (ys : List ℕ) → ys ≡ ws ++ replicate (length (take (S.head + S.today) s) - length ws) 0
          → ys ++ drop (S.head + S.today) s ≡ sets s 0 (S.now ws)
      taken ys e =
          let n : ys ≡ S.now ws = e ∙ rw (length-take-le (S.head + S.today) s h) filled in
          let z : 0 + length (S.now ws) ≡ S.head + S.today = omega (arith, now-long) in
          rw n (sym (rw z at (sets-eq (S.now ws) s 0 (omega (arith, h, now-long)))))

-- `widen`: the words in front, and behind them 0
module _ (ws s : List ℕ) (h : length ws ≤ length s) where
  copied_is : (ys : List ℕ) → ys ≡ ws → ys ++ drop (length ws - 0) s ≡ ws ++ drop (length ws) s
  copied_is ys e = let z : length ws - 0 ≡ length ws = omega arith in rw (e, z)

  pub widened : (ys zs : List ℕ) → ys ≡ ws
      → zs ≡ replicate (length (take (length s - length ws) (drop (length ws) (ys ++ drop (length ws - 0) s)))) 0
      → take (length ws) (ys ++ drop (length ws - 0) s) ++ (zs ++ drop (length s - length ws) (drop (length ws) (ys ++ drop (length ws - 0) s)))
      ≡ ws ++ replicate (length s - length ws) 0
  widened ys zs e p =
      let t : take (length ws) (ws ++ drop (length ws) s) ≡ ws = take_at ws (drop (length ws) s) (length ws) refl in
      let d : drop (length ws) (ws ++ drop (length ws) s) ≡ drop (length ws) s = drop_at ws (drop (length ws) s) (length ws) refl in
      let k : length (take (length s - length ws) (drop (length ws) s)) ≡ length s - length ws =
      length-take-le (length s - length ws) (drop (length ws) s) (omega (arith, length-drop (length ws) s)) in
      let o : drop (length s - length ws) (drop (length ws) s) ≡ [] =
      drop_of_length-le (drop (length ws) s) {i = length s - length ws} (omega (arith, length-drop (length ws) s)) in
      rw (p, copied_is ys e, t, d, k, o, append-nil {A = ℕ} (replicate (length s - length ws) 0))
