-- The index by receiver, as words (document 02, L2): how many messages in transit each receiver has; then, receiver by receiver, their
-- numbers, ascending; then beside each number 1 if the message is delivered and 0 if it is pending. The words behind them are 0.
use Rattle.std.specs.Prelude.{ℕ, zero, suc, ◌+◌, ◌-◌, List, [], ◌∷◌, ◌++◌, map, eqb, length, replicate, if◌then◌else◌}
use Rattle.system.specs.Limits.{system_clients, system_servers, system_messages}
use Rattle.sim_index.specs.declared.Card.{Card}

-- A card is an entry with its receiver: the receiver's place, the message's number and its mark.

-- the places of receivers: the servers', then the clients'
abbrev pub receivers : ℕ
receivers = system_servers + system_clients

-- where the numbers begin, where the marks do, and all the words
abbrev pub numbers_from : ℕ
numbers_from = receivers

abbrev pub marks_from : ℕ
marks_from = numbers_from + system_messages

abbrev pub index_size : ℕ
index_size = marks_from + system_messages

-- the cards of one receiver, in their order
unfoldable pub of_place : ℕ → List Card → List Card
of_place p [] = []
of_place p (c ∷ l) = if eqb c.place p then c ∷ of_place p l else of_place p l

-- receiver by receiver, those of the places below p
unfoldable pub sorted : ℕ → List Card → List Card
sorted zero l = []
sorted (suc p) l = sorted p l ++ of_place p l

-- how many each of these receivers has
unfoldable pub counts : ℕ → List Card → List ℕ
counts zero l = []
counts (suc p) l = counts p l ++ (length (of_place p l) ∷ [])

-- a word for each message that can be in transit
unfoldable pub padded : List ℕ → List ℕ
padded l = l ++ replicate (system_messages - length l) 0

abbrev pub numbers_of : List Card → List ℕ
numbers_of l = map (λ (c : Card). c.number) l

abbrev pub marks_of : List Card → List ℕ
marks_of l = map (λ (c : Card). c.mark) l

-- the index made afresh
unfoldable pub index_words : List Card → List ℕ
index_words l = counts receivers l ++ (padded (numbers_of (sorted receivers l)) ++ padded (marks_of (sorted receivers l)))
