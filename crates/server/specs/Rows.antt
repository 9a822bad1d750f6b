-- A call on a head and a lent row: what it rules, and what is left of head, row and messages.
use Rattle.ids.specs.declared.Refusal.{Refusal}
use Rattle.std.specs.Prelude.{ℕ, ◌≡◌, List, [], Ok, Err, Result, ⊤}
use Rattle.ids.specs.Refusals.{code, Says, accepts, refuses}
use Rattle.wire.specs.Step.{Outcome, refused, stepped}
use Rattle.wire.specs.declared.Message.{Message}
use Rattle.server_votes.specs.Figure1.{State}
use Rattle.server.specs.declared.Head.{Head}
use Rattle.server.specs.declared.Turned.{Turned}
use Rattle.server.specs.Parts.{three_mails}
use Rattle.server.specs.Calls.{head_after, row_after}

abbrev pub ruling_of : Outcome State → Result ⊤ Refusal
ruling_of (refused e) = Err e
ruling_of (stepped p) = Ok tt

-- nothing is sent with a refusal
abbrev pub sent_of : Outcome State → List Message
sent_of (refused e) = []
sent_of (stepped p) = p.sent

-- the ruling in document 01's numbers: the messages
abbrev pub ruling_says : Result ⊤ Refusal → List Message → Says Message
ruling_says (Err e) ms = refuses (code e)
ruling_says (Ok tt) ms = accepts ms

abbrev pub outcome_tells : Outcome State → Says Message
outcome_tells (refused e) = refuses (code e)
outcome_tells (stepped p) = accepts p.sent

pub record Turns (h : Head) (words : List ℕ) (o : Outcome State) (r : Turned) (after : List ℕ) : Type 0 where
  pub ruled : r.ruling ≡ ruling_of o
  pub head : r.head ≡ head_after h o
  pub row : after ≡ row_after words o
  pub sent : three_mails r.first r.second r.third ≡ sent_of o
  pub said : ruling_says r.ruling (three_mails r.first r.second r.third) ≡ outcome_tells o
