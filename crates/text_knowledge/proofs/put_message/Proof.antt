-- `text_knowledge::put_message` meets its contract: each kind of message has its call, which puts the text of that kind.
use Rattle.text_knowledge.specs.Mail.{message_text}
use borrow.Author.Rules.{rules}
use Rattle.text_knowledge.proofs.put_message.Statement.{statement}
use Rattle.text_knowledge.proofs.put_message.Tie as tie

returns : tie.Need-returns-in-Request
unfolding message_text
returns c = rw c.in-Request.is c.put_to_server.ensures

returns-2 : tie.Need-returns-in-Yield
unfolding message_text
returns-2 c = rw c.in-Yield.is c.put_to_server-in-Yield.ensures

returns-3 : tie.Need-returns-in-Release
unfolding message_text
returns-3 c = rw c.in-Release.is c.put_to_server-in-Release.ensures

returns-4 : tie.Need-returns-in-Inquiry
unfolding message_text
returns-4 c = rw c.in-Inquiry.is c.put_to_server-in-Inquiry.ensures

returns-5 : tie.Need-returns-in-Response
unfolding message_text
returns-5 c = rw c.in-Response.is c.put_response.ensures

returns-6 : tie.Need-returns-in-Check
unfolding message_text
returns-6 c = rw c.in-Check.is c.put_check.ensures

pub put_message_spec : {M : Type 1} → statement M
put_message_spec =
    tie.close
    (tie.spec
    (λ c. search rules)
    (λ c κs. search rules)
    (λ c. search rules)
    (λ c κs. search rules)
    (λ c. search rules)
    (λ c κs. search rules)
    (λ c. search rules)
    (λ c κs. search rules)
    (λ c. search rules)
    (λ c κs. search rules)
    (λ c. search rules)
    (λ c κs. search rules)
    (λ c. search rules)
    returns
    (λ c. search rules)
    returns-2
    (λ c. search rules)
    returns-3
    (λ c. search rules)
    returns-4
    (λ c. search rules)
    returns-5
    (λ c. search rules)
    returns-6)
