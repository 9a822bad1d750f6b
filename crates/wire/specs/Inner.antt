-- Definitions that only the contracts of private functions cite: no promise rests on them.
use Rattle.ids.specs.declared.Request.{Request}
use Rattle.std.specs.Prelude.{ℕ, Bool, List, [], ◌∷◌, ◌++◌, Option}
use Rattle.ids.specs.Limits.{max_servers}
use Rattle.ids.specs.declared.ClientId.{ClientId}
use Rattle.ids.specs.declared.ServerId.{ServerId}
use Rattle.wire.specs.Bytes.{encode}
use Rattle.wire.specs.declared.Fields.{Fields}
use Rattle.wire.specs.Format.{header, length_of, words, valid_response_up_to, valid_numbers_up_to}

-- the bytes that every kind begins with: the length, then all but the owner
unfoldable pub front : Fields → List ℕ
front f = encode (header ++ 2 ∷ 2 ∷ 4 ∷ []) (length_of f.kind ∷ words f)

abbrev pub valid_response : ClientId → ServerId → Option Request → Bool
valid_response = valid_response_up_to max_servers

abbrev pub valid_numbers : Fields → Bool
valid_numbers = valid_numbers_up_to max_servers
