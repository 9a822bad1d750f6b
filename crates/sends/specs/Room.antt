-- How much a step of a server on a valid record sends at most: so many messages, each as long as a RESPONSE.
use Rattle.std.specs.Prelude.{ℕ, ◌*◌}
use Rattle.wire.specs.Format.{response_bytes}

abbrev pub server_messages : ℕ
server_messages = 2

abbrev pub server_room : ℕ
server_room = server_messages * response_bytes
