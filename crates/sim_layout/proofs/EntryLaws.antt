-- The entries of a receiver in a valid simulation: those at its place in the index are its own, and a receiver that the setting lacks has none.
use Rattle.system.specs.declared.MessageNumber.{MessageNumber}
use Rattle.std.specs.Prelude.{None, Option}
use Prim.Native.Nat.{ℕ, ◌+◌, ◌-◌, ◌<◌, ◌≤◌}
use native.Mathlib.Omega.{arith}
use mathlib.Core.Path.{◌≡◌, refl, ap, ◌∙◌}
use mathlib.Core.Bool.{Bool, true, false}
use mathlib.Core.List.{List, []}
use lib.ListN.{length, take, drop}
use Rattle.ids.specs.Limits.{within}
use Rattle.ids.specs.declared.ClientId.{ClientId}
use Rattle.ids.specs.declared.ServerId.{ServerId}
use Rattle.ids.proofs.Choice.{holds, fails}
use Rattle.ids.proofs.LimitsLaws.{within-range}
use Rattle.system.specs.Limits.{system_servers}
use Rattle.system.specs.Index.{Entry, index_of}
use Rattle.system.specs.declared.Receiver.{Receiver}
use Rattle.system.specs.declared.Receiver.TheVariants.{Client, Server}
use Rattle.system.proofs.Tokens.{All}
use Rattle.sim_transit.proofs.Kept.{Kept, valid-kept}
use Rattle.sim_index.specs.Index.{receivers}
use Rattle.sim_indexed.specs.Indexed.{indexed_size, table, in_transit, entries_at, listed_at}
use Rattle.sim_indexed.specs.Calls.{Few, Valid, Held}
use Rattle.sim_indexed.proofs.IndexedLaws.{parts}
use Rattle.sim_indexed.proofs.ReceiverLaws.{entries_to, none_to}
use Rattle.sim_layout.specs.Layout.{transit_from, setting_of, length_of, sent_of, transit_words, view, valid}
use Rattle.sim_layout.proofs.ValidLaws.{facts}
use Rattle.sim_layout.proofs.ReadLaws.{few_servers, few_clients}

listed-none : (i : ℕ) → None ≡ listed_at [] i
unfolding listed_at
listed-none i = refl

module _ (w : List ℕ) (ok : valid w ≡ true) where
  pub few : Few (setting_of w).n (setting_of w).clients
  few = record { few_servers = few_servers w ok; few_clients = few_clients w ok }

  -- the words that are lent
  pub lent-valid : Valid (setting_of w).n (setting_of w).clients (sent_of w) (length_of w) (take indexed_size (drop transit_from w))
  unfolding transit_words
  lent-valid = (facts w ok).transit

  pub lent-size : length (take indexed_size (drop transit_from w)) ≡ indexed_size
  lent-size = (parts (setting_of w).n (setting_of w).clients (sent_of w) (length_of w) (take indexed_size (drop transit_from w)) lent-valid).size

  pub held-lent : Held (length_of w) (take indexed_size (drop transit_from w))
  held-lent = record { n = (setting_of w).n; clients = (setting_of w).clients; sent = sent_of w; few = few; valid = lent-valid; size = lent-size }

  pub entries_lent : (p i : ℕ) (e : Option (MessageNumber × Bool)) → e ≡ listed_at (entries_at p (in_transit (length_of w) (take indexed_size (drop transit_from w)))) i
      → e ≡ listed_at (entries_at p (view w).transit) i
  unfolding view transit_words
  entries_lent p i e h = h

  kept : All (Kept (setting_of w).n (setting_of w).clients (sent_of w)) (view w).transit
  unfolding view
  kept = valid-kept (setting_of w).n (setting_of w).clients (sent_of w) (length_of w) (table (transit_words w))
      (parts (setting_of w).n (setting_of w).clients (sent_of w) (length_of w) (transit_words w) (facts w ok).transit).fit

  -- a client
  module _ (r : Receiver) (i : ℕ) (k : ClientId) (is : r ≡ Client k) (b : Bool) (e : b ≡ within k.0 (setting_of w).clients) where
    pub client_lacking : b ≡ false → None ≡ listed_at (index_of r (view w).transit) i
    client_lacking h =
        let none = none_to (setting_of w).n (setting_of w).clients (Client k) (fails b (within k.0 (setting_of w).clients) e h) kept in
        rw (is, none) (listed-none i)

    pub client-there : b ≡ true → (1 ≤ k.0) × (system_servers + (k.0 - 1) < receivers)
    client-there h =
        let a = within-range k.0 (setting_of w).clients (holds b (within k.0 (setting_of w).clients) e h) in
        (a.0, omega (arith, a, few.few_clients))

    pub client-entry : b ≡ true → (x : Option (MessageNumber × Bool)) → x ≡ listed_at (entries_at (system_servers + (k.0 - 1)) (view w).transit) i
        → x ≡ listed_at (index_of r (view w).transit) i
    client-entry h x f =
        let own = entries_to (setting_of w).n (setting_of w).clients few (Client k) (client-there h).0 kept in
        rw is (f ∙ ap (λ (l : List Entry). listed_at l i) own)

  -- a server
  module _ (r : Receiver) (i : ℕ) (j : ServerId) (is : r ≡ Server j) (b : Bool) (e : b ≡ within j.0 (setting_of w).n) where
    pub server_lacking : b ≡ false → None ≡ listed_at (index_of r (view w).transit) i
    server_lacking h =
        let none = none_to (setting_of w).n (setting_of w).clients (Server j) (fails b (within j.0 (setting_of w).n) e h) kept in
        rw (is, none) (listed-none i)

    pub server-there : b ≡ true → (1 ≤ j.0) × (j.0 - 1 < receivers)
    server-there h =
        let a = within-range j.0 (setting_of w).n (holds b (within j.0 (setting_of w).n) e h) in
        (a.0, omega (arith, a, few.few_servers))

    pub server-entry : b ≡ true → (x : Option (MessageNumber × Bool)) → x ≡ listed_at (entries_at (j.0 - 1) (view w).transit) i → x ≡ listed_at (index_of r (view w).transit) i
    server-entry h x f =
        let a = within-range j.0 (setting_of w).n (holds b (within j.0 (setting_of w).n) e h) in
        let own = entries_to (setting_of w).n (setting_of w).clients few (Server j) (a.0, omega (arith, a, few.few_servers)) kept in
        rw is (f ∙ ap (λ (l : List Entry). listed_at l i) own)
