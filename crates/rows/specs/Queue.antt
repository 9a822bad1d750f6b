-- What Figure 1 of the report does to a request queue, as a list in its order.
use Rattle.std.specs.Prelude.{List, [], ◌∷◌, eqb, if◌then◌else◌, Some, None, Option}
use Rattle.ids.specs.Order.{before}
use Rattle.ids.specs.Requests.{same}
use Rattle.ids.specs.declared.ClientId.{ClientId}
use Rattle.ids.specs.declared.Timestamp.{Timestamp}
use Rattle.ids.specs.declared.Request.{Request}

-- the timestamp with which client k stands in a list of requests
unfoldable pub timestamp_in : ClientId → List Request → Option Timestamp
timestamp_in k [] = None
timestamp_in k (r ∷ l) = if eqb r.client.0 k.0 then Some r.timestamp else timestamp_in k l

-- insertion by predetermined order
unfoldable pub insert : Request → List Request → List Request
insert r [] = r ∷ []
insert r (x ∷ l) = if before r x then r ∷ (x ∷ l) else x ∷ insert r l

-- line 56: the queue without r
unfoldable pub without : Request → List Request → List Request
without r [] = []
without r (x ∷ l) = if same x r then l else x ∷ without r l
