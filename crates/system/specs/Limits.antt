-- The limits of a simulation, document 01's gallery: each stands here, once. A run has none of them.
use Rattle.std.specs.Prelude.{ℕ}

-- its clients, its servers
abbrev pub system_clients : ℕ
system_clients = 16

abbrev pub system_servers : ℕ
system_servers = 31

-- the messages in transit at once, and the last number that a message can have
abbrev pub system_messages : ℕ
system_messages = 512

abbrev pub last_number : ℕ
last_number = 4294967295
