-- A party's act in an event: when it may be done, and which event it is.
use Rattle.std.specs.Prelude.{ℕ, List}
use Rattle.ids.specs.declared.ClientId.{ClientId}
use Rattle.ids.specs.declared.ServerId.{ServerId}
use Rattle.wire.specs.declared.Message.TheVariants.{Response, Check as CHECK}
use Rattle.system.specs.declared.Event.{Event}
use Rattle.system.specs.declared.Event.TheVariants.{Try, Exit, Take, Miss, Check}
use Rattle.sim_changes.specs.Changes.{HasClient, HasServer, Missing, Pends, number_at, tagged}
use Rattle.sim_changes.specs.declared.ClientAct.{ClientAct}
use Rattle.sim_changes.specs.declared.ClientAct.TheVariants as client-act
use Rattle.sim_changes.specs.declared.ServerAct.{ServerAct}
use Rattle.sim_changes.specs.declared.ServerAct.TheVariants as server-act

-- client k is there, and the message that it takes is pending
abbrev pub ClientMay : List ℕ → ClientId → ClientAct → Type 0
ClientMay w k client-act.Try = HasClient w k
ClientMay w k client-act.Exit = HasClient w k
ClientMay w k (client-act.Response i j o) = Pends w i (Response k j o)
ClientMay w k (client-act.Check i j t) = Pends w i (CHECK k j t)

abbrev pub client_event : List ℕ → ClientId → ClientAct → Event
client_event w k client-act.Try = Try k
client_event w k client-act.Exit = Exit k
client_event w k (client-act.Response i j o) = Take (number_at w i)
client_event w k (client-act.Check i j t) = Take (number_at w i)

-- server j is there, and its owner has fallen, or the message that it takes is pending
abbrev pub ServerMay : List ℕ → ServerId → ServerAct → Type 0
ServerMay w j server-act.Check = HasServer w j
ServerMay w j server-act.Suspect = Missing w j
ServerMay w j (server-act.Take i tag k t) = Pends w i (tagged tag k j t)

abbrev pub server_event : List ℕ → ServerId → ServerAct → Event
server_event w j server-act.Check = Check j
server_event w j server-act.Suspect = Miss j
server_event w j (server-act.Take i tag k t) = Take (number_at w i)
