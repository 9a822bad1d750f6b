-- `words::fits_head` meets its contract: each test is one part of `fits_head`.
use Rattle.words.proofs.RecordsLaws.{head_1, head_2, head_3}
use Rattle.words.proofs.fits_head.Statement.{statement}
use Rattle.words.proofs.fits_head.Tie as tie

pub fits_head_spec : {M : Type 1} → statement M
fits_head_spec =
    tie.close
    (tie.spec
    (λ c. search head_1)
    (λ c. search head_2)
    (λ c. search head_3))
