-- `text_knowledge::put_state` meets its contract: the section, what the client has seen, then the supporting servers.
use Rattle.text_sheet.proofs.SheetLaws.{then}
use Rattle.text_knowledge.specs.Knowledge.{state_text}
use Rattle.client.specs.Record.{view}
use borrow.Author.Rules.{rules}
use Rattle.text_knowledge.proofs.put_state.Statement.{statement}
use Rattle.text_knowledge.proofs.put_state.Tie as tie

returns : tie.Need-returns
unfolding state_text view
returns c =
    then _ _ _ (then _ _ _ c.put_section-p.ensures c.put_with-q.ensures) c.put_supporters_of.ensures

pub put_state_spec : {M : Type 1} → statement M
put_state_spec =
    tie.close
    (tie.spec
    (λ c κs. search rules)
    (λ c κs. search rules)
    (λ c κs. search rules)
    (λ c. search rules)
    returns)
