-- `capi_quorum::signed_word` meets its contract: each return is one case of the definition.
use Rattle.capi_quorum.proofs.SignedLaws.{turned-fits, turned_casts, turned_low, negative_word, positive_casts, positive-word}
use Rattle.capi_quorum.proofs.signed_word.Statement.{statement}
use Rattle.capi_quorum.proofs.signed_word.Tie as tie

pub signed_word_spec : {M : Type 1} → statement M
signed_word_spec =
    tie.close
    (tie.spec
    (λ c. search turned-fits)
    (λ c. turned_casts c.args.x c.before.ranges.x c.if-x-lt0.true)
    (λ c. search turned_low)
    (λ c. search negative_word)
    (λ c. positive_casts c.args.x c.before.ranges.x c.if-x-lt0.false)
    (λ c. search positive-word))
