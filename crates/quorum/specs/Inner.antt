-- Definitions that only the contracts of private functions cite: no promise rests on them.
use Rattle.std.specs.Prelude.{ℕ, ◌+◌, ◌*◌, ◌-◌, leb, if◌then◌else◌}
use Rattle.ids.specs.Limits.{max_servers}
use Rattle.system.specs.declared.Event.{Event}
use Rattle.system.specs.declared.Event.TheVariants.{Try, Down, Up}
use Rattle.system.specs.Setting.{takes, lost}
use Rattle.system.specs.Numbered.{client_no, server_no}

abbrev pub run_length : ℕ → ℕ → ℕ
run_length n m = 4 * m + 2 + 2 * lost n m

-- no unsafe run is longer
abbrev pub longest_run : ℕ
longest_run = 6 * max_servers + 2

-- client 1 enters by servers 1 to m
unfoldable pub first_entry : ℕ → ℕ → ℕ → Event
first_entry n m i =
    if leb i 1 then Try (client_no 1)
    else if leb i (1 + m) then takes (i - 1)
    else takes (n + (i - (1 + m)))

-- l servers go down in order, then up in order
unfoldable pub restart : ℕ → ℕ → Event
restart l i = if leb i l then Down (server_no i) else Up (server_no (i - l))

-- client 2 enters by those and by the servers from m + 1 up
unfoldable pub second_entry : ℕ → ℕ → ℕ → ℕ → Event
second_entry n m l i =
    if leb i 1 then Try (client_no 2)
    else if leb i (1 + l) then takes (n + m + (i - 1))
    else if leb i (1 + m) then takes (n + m + (m + (i - (1 + l))))
    else takes (n + m + n + (i - (1 + m)))

unfoldable pub event_at : ℕ → ℕ → ℕ → Event
event_at n m i =
    if leb i (1 + 2 * m) then first_entry n m i
    else if leb i (1 + 2 * m + 2 * lost n m) then restart (lost n m) (i - (1 + 2 * m))
    else second_entry n m (lost n m) (i - (1 + 2 * m + 2 * lost n m))
