-- Definitions that only the contracts of private functions cite: no promise rests on them.
use Rattle.std.specs.Prelude.{ℕ, Bool, if◌then◌else◌}
use Rattle.ids.specs.declared.Request.{Request}

-- a place's two words, and 1 for a test that holds
abbrev pub pair : ℕ → ℕ → Request
pair k t = record { client = record { 0 = k }; timestamp = record { 0 = t } }

abbrev pub one : Bool → ℕ
one b = if b then 1 else 0
