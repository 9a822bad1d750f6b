-- The server: Figure 1 of the report, lines 26 to 56, on an owner and a request queue.
-- Document 01 says keeper for server, line for queue, missing for suspected.
use Rattle.std.specs.Prelude.{List, [], ◌∷◌, ltb, if◌then◌else◌, Some, None, Option}
use Rattle.ids.specs.Choice.{maybe}
use Rattle.ids.specs.Requests.{is_request, is_client, by_owner}
use Rattle.ids.specs.declared.ClientId.{ClientId}
use Rattle.ids.specs.declared.ServerId.{ServerId}
use Rattle.ids.specs.declared.Timestamp.{Timestamp}
use Rattle.ids.specs.declared.Request.{Request}
use Rattle.rows.specs.Queue.{timestamp_in, insert, without}
use Rattle.wire.specs.Step.{Step, stay, tell, ◌then◌}
use Rattle.wire.specs.declared.Message.TheVariants.{Response as RESPONSE, Check as CHECK}
use Rattle.server_votes.specs.declared.Tag.{Tag}
use Rattle.server_votes.specs.declared.Tag.TheVariants.{Request as REQUEST, Yield as YIELD, Release as RELEASE, Inquiry as INQUIRY}

pub record State : Type 0 where
  -- (c_owner, t_owner), nobody for (nil, nil)
  pub owner : Option Request
  -- ReqQ
  pub queue : List Request

abbrev pub idle : State
idle = record { owner = None; queue = [] }

-- line 27: all that the server knows of, its owner first
abbrev pub candidates : State → List Request
candidates q = by_owner q.owner q.queue (λ o. o ∷ q.queue)

-- lines 33 and 34: r waits in the queue, unless its client does already
unfoldable pub enqueue : Request → List Request → List Request
enqueue r l = maybe (timestamp_in r.client l) (insert r l) (λ t. l)

-- lines 39 and 40, 52 to 55: server j's owner is the head of the queue, and is told so; with an empty queue there is none
unfoldable pub promote : ServerId → List Request → Step State
promote j [] = stay idle
promote j (h ∷ l) = tell (record { owner = Some h; queue = l }) (RESPONSE h.client j (Some h))

-- lines 50 to 56: Delete
unfoldable pub delete : ServerId → Request → State → Step State
delete j r q =
    if is_request r q.owner then promote j q.queue
    else stay (record { owner = q.owner; queue = without r q.queue })

-- lines 35, 41 and 45: RESPONSE with the owner to client k, unless k is the owner
unfoldable pub inform : ServerId → ClientId → State → Step State
inform j k q = if is_client k q.owner then stay q else tell q (RESPONSE k j q.owner)

-- lines 32 to 34: r becomes owner if there is none, else it waits
abbrev pub admit : Request → State → State
admit r q =
    by_owner q.owner (record { owner = Some r; queue = q.queue }) (λ o. record { owner = Some o; queue = enqueue r q.queue })

-- lines 30 to 45, for server j and the request r of the message's sender
unfoldable pub act : ServerId → Tag → Request → State → Step State
act j REQUEST r q = if is_client r.client q.owner then stay q else tell (admit r q) (RESPONSE r.client j (admit r q).owner)
act j YIELD r q = (if is_request r q.owner then promote j (insert r q.queue) else stay q) then inform j r.client
act j RELEASE r q = delete j r q
act j INQUIRY r q = by_owner q.owner (stay q) (λ o. inform j r.client q)

-- lines 28 and 29, where the sender stands with timestamp t: an older message is skipped, before a newer one the old pair is removed
abbrev pub compare : ServerId → Tag → Request → State → Timestamp → Step State
compare j tag r q t =
    if ltb r.timestamp.0 t.0 then stay q
    else if ltb t.0 r.timestamp.0 then (delete j (record { client = r.client; timestamp = t }) q then act j tag r)
    else act j tag r q

-- lines 26 to 45: server j takes a message
unfoldable pub receive : ServerId → Tag → Request → State → Step State
receive j tag r q = maybe (timestamp_in r.client (candidates q)) (act j tag r q) (compare j tag r q)

-- lines 46 and 47
unfoldable pub suspect : ServerId → State → Step State
suspect j q = by_owner q.owner (stay q) (λ o. delete j o q)

-- lines 48 and 49
unfoldable pub check : ServerId → State → Step State
check j q = by_owner q.owner (stay q) (λ o. tell q (CHECK o.client j o.timestamp))
