-- The message to a server with a tag: what is proved of one tag after another is proved of the four messages.
use mathlib.Core.Path.{◌≡◌}
use mathlib.Core.Bool.{true}
use Rattle.ids.specs.Limits.{max_servers, valid_request}
use Rattle.ids.specs.declared.ClientId.{ClientId}
use Rattle.ids.specs.declared.ServerId.{ServerId}
use Rattle.ids.specs.declared.Timestamp.{Timestamp}
use Rattle.ids.proofs.LimitsLaws.{stamped_request}
use Rattle.wire.specs.Format as format
use Rattle.wire.specs.declared.Message.{Message}
use Rattle.wire.specs.declared.Message.TheVariants.{Request, Yield, Release, Inquiry}
use Rattle.server_votes.specs.declared.Tag.{Tag}
use Rattle.server_votes.specs.declared.Tag.TheVariants.{Request as Asks, Yield as Yields, Release as Releases, Inquiry as Inquires}

-- the message with a tag, client k's to server j
abbrev pub message : Tag → ClientId → ServerId → Timestamp → Message
message Asks k j t = Request k j t
message Yields k j t = Yield k j t
message Releases k j t = Release k j t
message Inquires k j t = Inquiry k j t

-- the request of one in range
pub message-request : (tag : Tag) (k : ClientId) (j : ServerId) (t : Timestamp) → format.valid (message tag k j t) ≡ true
    → valid_request (record { client = k; timestamp = t }) ≡ true
unfolding format.valid_up_to
message-request Asks k j t w = stamped_request max_servers k j t w
message-request Yields k j t w = stamped_request max_servers k j t w
message-request Releases k j t w = stamped_request max_servers k j t w
message-request Inquires k j t w = stamped_request max_servers k j t w
