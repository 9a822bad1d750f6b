-- The public calls: each refusal in its order, and then the step.
use Rattle.std.specs.Prelude.{Ok, Err, Some, None, Option}
use Prim.Native.Nat.{ℕ}
use mathlib.Core.Path.{◌≡◌, refl, sym, ap, ◌∙◌}
use mathlib.Core.Bool.{Bool, true, false}
use mathlib.Core.List.{List}
use borrow.Author.Tests.{le-ltb}
use Rattle.ids.specs.Limits.{within, max_servers}
use Rattle.ids.specs.Requests.{by_owner}
use Rattle.ids.proofs.Choice.{of_choice}
use Rattle.ids.specs.declared.Refusal.TheVariants.{InvalidRecord, NumberOutOfRange, NotForServer, NoOwner, ParameterOutOfRange}
use Rattle.ids.specs.declared.ClientId.{ClientId}
use Rattle.ids.specs.declared.ServerId.{ServerId}
use Rattle.ids.specs.declared.Timestamp.{Timestamp}
use Rattle.ids.specs.declared.Request.{Request}
use Rattle.rows.specs.Rows.{Padded}
use Rattle.rows.proofs.QueueLaws.{holds-still}
use Rattle.wire.specs.Format as format
use Rattle.wire.specs.Step.{Outcome, refused, stepped, stay, tell}
use Rattle.wire.specs.Says.{answer_says, new_says}
use Rattle.wire.specs.declared.Message.{Message}
use Rattle.wire.specs.declared.Message.TheVariants.{Check}
use Rattle.wire.specs.declared.Message.TheVariants as message
use Rattle.server_votes.specs.declared.Moved.{Moved}
use Rattle.server_votes.specs.declared.Tag.{Tag}
use Rattle.server_votes.specs.declared.Tag.TheVariants.{Request as Asks, Yield as Yields, Release as Releases, Inquiry as Inquires}
use Rattle.server_votes.proofs.Tagged as tagged
use Rattle.server_votes.specs.Figure1.{State, delete, suspect, check}
use Rattle.server_votes.specs.Places.{MovesOne, still, telling}
use Rattle.server_votes.proofs.ActLaws.{stays, delete-fits}
use Rattle.server_votes.proofs.MoveLaws.{moves-telling}
use Rattle.server.specs.declared.Head.{Head}
use Rattle.server.specs.declared.Server.{Server}
use Rattle.server.specs.declared.Stepped.{Stepped}
use Rattle.server.specs.declared.Turned.{Turned}
use Rattle.server.specs.Record.{valid, valid_sizes, server_of, view}
use Rattle.server.specs.Inner.{refusing, doing, asked_by}
use Rattle.server.specs.Calls.{empty_server, blank, new_result, NewGives, taken, received, message_outcome_up_to, message_outcome, suspect_outcome, check_outcome}
use Rattle.server.specs.Rows.{Turns}
use Rattle.server.proofs.TurnLaws.{turns_refused, turns_done}

-- what is received, by what the message asks of a server
abbrev by_asked : Server → Option (Tag × ClientId × ServerId × Timestamp) → Outcome State
by_asked s None = refused NotForServer
by_asked s (Some (x, k, j, t)) = taken s x k j t

received_asked : (s : Server) (m : Message) → received s m ≡ by_asked s (asked_by m)
received_asked s (message.Request k j t) = refl
received_asked s (message.Yield k j t) = refl
received_asked s (message.Release k j t) = refl
received_asked s (message.Inquiry k j t) = refl
received_asked s (message.Response k j o) = refl
received_asked s (message.Check k j t) = refl

pub received_as : (s : Server) (x : Tag) (k : ClientId) (j : ServerId) (t : Timestamp) → received s (tagged.message x k j t) ≡ taken s x k j t
received_as s Asks k j t = refl
received_as s Yields k j t = refl
received_as s Releases k j t = refl
received_as s Inquires k j t = refl

module _ (h : Head) (row : List ℕ) (r : Turned) (b : Bool) (e : b ≡ valid (server_of h row)) where
  abbrev s : Server
  s = server_of h row

  broken : b ≡ false → valid s ≡ false
  broken n = sym e ∙ n

  sound : b ≡ true → valid s ≡ true
  sound n = sym e ∙ n

  -- 21
  pub message_broken : (m : Message) → b ≡ false → r ≡ refusing h InvalidRecord → Turns h row (message_outcome s m) r row
  unfolding message_outcome_up_to
  message_broken m n p = turns_refused h row (message_outcome s m) r InvalidRecord (rw (broken n)) p

  pub suspect_broken : b ≡ false → r ≡ refusing h InvalidRecord → Turns h row (suspect_outcome s) r row
  unfolding suspect_outcome
  suspect_broken n p = turns_refused h row (suspect_outcome s) r InvalidRecord (rw (broken n)) p

  pub check_broken : b ≡ false → r ≡ refusing h InvalidRecord → Turns h row (check_outcome s) r row
  unfolding check_outcome
  check_broken n p = turns_refused h row (check_outcome s) r InvalidRecord (rw (broken n)) p

  module _ (n : b ≡ true) where
    -- 5, and then what the kind says
    module _ (m : Message) (v : Bool) (f : v ≡ format.valid m) where
      pub message-range : v ≡ false → r ≡ refusing h NumberOutOfRange → Turns h row (message_outcome s m) r row
      unfolding message_outcome_up_to
      message-range t p = let z : format.valid m ≡ false = sym f ∙
          t in turns_refused h row (message_outcome s m) r NumberOutOfRange (rw (sound n, z)) p

      module _ (t : v ≡ true) where
        its-kind : message_outcome s m ≡ received s m
        unfolding message_outcome_up_to
        its-kind = let z : format.valid m ≡ true = sym f ∙ t in rw (sound n, z)

        -- by what the message asks of a server
        module _ (a : Option (Tag × ClientId × ServerId × Timestamp)) (d : a ≡ asked_by m) where
          pub message_not : a ≡ None → r ≡ refusing h NotForServer → Turns h row (message_outcome s m) r row
          message_not q p = turns_refused h row (message_outcome s m) r NotForServer (its-kind ∙ (received_asked s m ∙ ap (by_asked s) (sym d ∙ q))) p

          pub message-taken : (x : Tag) (k : ClientId) (j : ServerId) (u : Timestamp) (after : List ℕ) → a ≡ Some (x, k, j, u)
              → Turns h row (taken s x k j u) r after → Turns h row (message_outcome s m) r after
          message-taken x k j u after q p = rw (its-kind ∙ (received_asked s m ∙ ap (by_asked s) (sym d ∙ q))) p

    -- 15, and then the owner's place goes on
    pub suspect_nobody : h.votes.owner ≡ None → r ≡ refusing h NoOwner → Turns h row (suspect_outcome s) r row
    unfolding suspect_outcome
    suspect_nobody q p = turns_refused h row (suspect_outcome s) r NoOwner (rw (sound n, q)) p

    module _ (good : Padded row h.votes.len) (x : Request) (q : h.votes.owner ≡ Some x) (m : Moved) where
      suspected : suspect h.id (view s) ≡ delete h.id x (view s)
      unfolding suspect
      suspected = ap (λ (w : Option Request). by_owner w (stay (view s)) (λ y. delete h.id y (view s))) q

      suspect_steps : suspect_outcome s ≡ stepped (suspect h.id (view s))
      unfolding suspect_outcome
      suspect_steps = rw (sound n) (ap (λ (w : Option Request). by_owner {B = Outcome State} w (refused NoOwner) (λ y. stepped (suspect h.id (view s)))) q)

      pub suspect-done : (after : List ℕ) → MovesOne h.votes row after m (delete h.id x (view s)) → r ≡ doing h m → Turns h row (suspect_outcome s) r after
      suspect-done after one a =
          let f : m.full ≡ false = one.moves.full ∙ le-ltb _ _ (delete-fits h.votes row good h.id x) in
          turns_done h row (suspect_outcome s) r after m _ (suspect_steps ∙ ap {B = Outcome State} stepped suspected) one.moves f a

      check-asks : check_outcome s ≡ stepped (tell (view s) (Check x.client h.id x.timestamp))
      unfolding check_outcome check
      check-asks =
          rw (sound n)
          (ap {B = Outcome State} stepped (ap (λ (w : Option Request). by_owner w (stay (view s)) (λ y. tell (view s) (Check y.client h.id y.timestamp))) q))

      pub check-asked : m ≡ telling h.votes (Check x.client h.id x.timestamp) → r ≡ doing h m → Turns h row (check_outcome s) r row
      check-asked p a =
          let one = moves-telling {u = h.votes} row row m h.votes (tell (view s) (Check x.client h.id x.timestamp))
          (holds-still row h.votes.len good) refl _ p refl in
          turns_done h row (check_outcome s) r row m _ check-asks one.moves (ap (λ (y : Moved). y.full) p) a

    pub check-idle : Padded row h.votes.len → (m : Moved) → h.votes.owner ≡ None → m ≡ still h.votes → r ≡ doing h m
        → Turns h row (check_outcome s) r row
    unfolding check_outcome check
    check-idle good m q p a =
        let one = stays h.votes row good m p in
        let w : check_outcome s ≡ stepped (stay (view s)) =
        rw (sound n) (ap {B = Outcome State} stepped
        (ap (λ (w : Option Request). by_owner w (stay (view s)) (λ y. tell (view s) (Check y.client h.id y.timestamp))) q)) in
        turns_done h row (check_outcome s) r row m _ w one.moves (ap (λ (y : Moved). y.full) p) a

-- a new server
module _ (n : ℕ) (j : ServerId) (r : Stepped) (a : Bool) (p : a ≡ within n max_servers) where
  new_row : answer_says (new_result n j).answer ≡ new_says (valid_sizes n j)
  unfolding new_result new_says
  new_row = of_choice (λ (s : Stepped). answer_says s.answer) (valid_sizes n j) _ _ refl refl

  said_new : r ≡ new_result n j → NewGives n j r
  said_new e = (e, ap (λ (s : Stepped). answer_says s.answer) e ∙ new_row)

  pub new_few : a ≡ false → r ≡ record { server = blank; answer = Err ParameterOutOfRange } → NewGives n j r
  unfolding new_result
  new_few t q = let z : within n max_servers ≡ false = sym p ∙ t in said_new (rw (z, q))

  module _ (t : a ≡ true) (b : Bool) (q : b ≡ within j.0 n) where
    pub new_other : b ≡ false → r ≡ record { server = blank; answer = Err ParameterOutOfRange } → NewGives n j r
    unfolding new_result
    new_other u d =
        let z : within n max_servers ≡ true = sym p ∙ t in
        let y : within j.0 n ≡ false = sym q ∙ u in
        said_new (rw (z, y, d))

    pub new_made : (s : Server) → b ≡ true → s ≡ empty_server n j → r ≡ record { server = s; answer = Ok (record { messages = 0; bytes = 0 }) } → NewGives n j r
    unfolding new_result
    new_made s u e d =
        let z : within n max_servers ≡ true = sym p ∙ t in
        let y : within j.0 n ≡ true = sym q ∙ u in
        said_new (rw (z, y, d, e))
