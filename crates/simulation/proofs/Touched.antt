-- An event of a simulation changes no receiver's list in the index but those of messages sent, taken or dropped, and of a server that goes down:
-- the system's theorem, said of the lists and of the words that stand for them.
use Prim.Native.Nat.{ℕ, ◌<◌}
use mathlib.Core.Path.{◌≡◌, sym, ap, ◌∙◌}
use mathlib.Core.Bool.{true, false}
use mathlib.Core.List.{List, map}
use Rattle.client_responses.specs.Figure1.{enough}
use Rattle.system.specs.Limits.{system_messages, last_number}
use Rattle.system.specs.declared.Event.{Event}
use Rattle.system.specs.declared.Receiver.{Receiver}
use Rattle.system.specs.Places.{System}
use Rattle.system.specs.Index.{index_of, touched}
use Rattle.system.proofs.Touched.{untouched_within}
use Rattle.sim_index.specs.Index.{receivers}
use Rattle.sim_index.specs.Calls.{numbers_in, marks_in}
use Rattle.sim_indexed.specs.Indexed.{index, place_of}
use Rattle.sim_indexed.proofs.ReceiverLaws.{Placed}
use Rattle.sim_indexed.proofs.ListedLaws.{number_of, mark_of, its-numbers, its_marks}
use Rattle.sim_layout.specs.Layout.{setting_of, length_of, sent_of, transit_words, view, valid}
use Rattle.sim_layout.proofs.ValidLaws.{facts}
use Rattle.sim_layout.proofs.EntryLaws.{few}
use Rattle.sim_changes.specs.Happens.{happens, Leaves}

-- the lists in the words of a valid simulation are those made afresh from its messages
module _ (w : List ℕ) (ok : valid w ≡ true) (r : Receiver) (own : Placed r) (there : place_of r < receivers) where
  pub numbers-afresh : numbers_in (place_of r) (index (transit_words w)) ≡ map number_of (index_of r (view w).transit)
  unfolding view
  numbers-afresh = its-numbers (setting_of w).n (setting_of w).clients (sent_of w) (length_of w) (transit_words w) (few w ok) (facts w ok).transit r own there

  pub marks_afresh : marks_in (place_of r) (index (transit_words w)) ≡ map mark_of (index_of r (view w).transit)
  unfolding view
  marks_afresh = its_marks (setting_of w).n (setting_of w).clients (sent_of w) (length_of w) (transit_words w) (few w ok) (facts w ok).transit r own there

module _ (w : List ℕ) (e : Event) (w' : List ℕ) (ok : valid w ≡ true) (L : Leaves w e w') (r : Receiver)
    (other : touched (view w) e (happens w e) r ≡ false) where
  pub list_stays : index_of r (view w').transit ≡ index_of r (view w).transit
  list_stays =
      ap (λ (u : System). index_of r u.transit) L.system ∙
      untouched_within (setting_of w).n (enough (setting_of w).m) (view w) r system_messages last_number e other

  module _ (own : Placed r) (there : place_of r < receivers) where
    pub numbers_stay : numbers_in (place_of r) (index (transit_words w')) ≡ numbers_in (place_of r) (index (transit_words w))
    numbers_stay =
        numbers-afresh w' L.again r own there ∙ (ap (map number_of) list_stays ∙ sym (numbers-afresh w ok r own there))

    pub marks_stay : marks_in (place_of r) (index (transit_words w')) ≡ marks_in (place_of r) (index (transit_words w))
    marks_stay = marks_afresh w' L.again r own there ∙ (ap (map mark_of) list_stays ∙ sym (marks_afresh w ok r own there))
