-- Which refusal an event gives, or what it leaves, test by test in the row's order.
use Rattle.std.specs.Prelude.{Some, None}
use mathlib.Core.Path.{◌≡◌}
use Prim.Native.Nat.{ℕ}
use mathlib.Core.Bool.{true, false}
use Rattle.ids.specs.declared.ClientId.{ClientId}
use Rattle.ids.specs.declared.ServerId.{ServerId}
use Rattle.ids.specs.declared.Request.{Request}
use Rattle.ids.specs.declared.Refusal.TheVariants.{NoSuchParty, PartyDown, NoOwner, OwnerLives, WrongSection, TimestampsSpent}
use Rattle.wire.specs.Step.{refused, stepped}
use Rattle.wire.specs.declared.Message.{Message}
use Rattle.client_responses.specs.Figure1.{Quorum, is_remainder, is_critical, may_try}
use Rattle.system.specs.declared.MessageNumber.{MessageNumber}
use Rattle.system.specs.declared.Event.TheVariants.{Try, Exit, Fall, Down, Up, Take, Drop, Miss, Check}
use Rattle.system.specs.Numbered.{has}
use Rattle.system.specs.Transit.{pending, present}
use Rattle.system.specs.Places.{System, client_at, server_at}
use Rattle.system.specs.Events.{tried, exited, fallen, went_down, came_up, dropped, suspected, asked, deliver, event}

module _ (n : ℕ) (wins : Quorum) (u : System) where
  module _ (k : ClientId) where
    pub no_client-tries : has u.clients k.0 ≡ false → event n wins u (Try k) ≡ refused NoSuchParty
    unfolding event
    no_client-tries h = rw h

    pub no_client-exits : has u.clients k.0 ≡ false → event n wins u (Exit k) ≡ refused NoSuchParty
    unfolding event
    no_client-exits h = rw h

    pub no_client_falls : has u.clients k.0 ≡ false → event n wins u (Fall k) ≡ refused NoSuchParty
    unfolding event
    no_client_falls h = rw h

    module _ (there : has u.clients k.0 ≡ true) where
      pub fallen-tries : (client_at u k).living ≡ false → event n wins u (Try k) ≡ refused PartyDown
      unfolding event
      fallen-tries h = rw (there, h)

      pub fallen-exits : (client_at u k).living ≡ false → event n wins u (Exit k) ≡ refused PartyDown
      unfolding event
      fallen-exits h = rw (there, h)

      pub fallen_falls : (client_at u k).living ≡ false → event n wins u (Fall k) ≡ refused PartyDown
      unfolding event
      fallen_falls h = rw (there, h)

      module _ (lives : (client_at u k).living ≡ true) where
        pub falls : event n wins u (Fall k) ≡ stepped (fallen u k)
        unfolding event
        falls = rw (there, lives)

        pub exits-outside : is_critical (client_at u k).state.section ≡ false → event n wins u (Exit k) ≡ refused WrongSection
        unfolding event
        exits-outside h = rw (there, lives, h)

        pub exits : is_critical (client_at u k).state.section ≡ true → event n wins u (Exit k) ≡ stepped (exited n u k)
        unfolding event
        exits h = rw (there, lives, h)

        pub tries_twice : is_remainder (client_at u k).state.section ≡ false → event n wins u (Try k) ≡ refused WrongSection
        unfolding event
        tries_twice h = rw (there, lives, h)

        pub tries-spent : is_remainder (client_at u k).state.section ≡ true → may_try (client_at u k).state ≡ false
            → event n wins u (Try k) ≡ refused TimestampsSpent
        unfolding event
        tries-spent h t = rw (there, lives, h, t)

        pub tries : is_remainder (client_at u k).state.section ≡ true → may_try (client_at u k).state ≡ true → event n wins u (Try k) ≡ stepped (tried n u k)
        unfolding event
        tries h t = rw (there, lives, h, t)

  module _ (j : ServerId) where
    pub no_server-downs : has u.servers j.0 ≡ false → event n wins u (Down j) ≡ refused NoSuchParty
    unfolding event
    no_server-downs h = rw h

    pub no_server-ups : has u.servers j.0 ≡ false → event n wins u (Up j) ≡ refused NoSuchParty
    unfolding event
    no_server-ups h = rw h

    pub no_server-misses : has u.servers j.0 ≡ false → event n wins u (Miss j) ≡ refused NoSuchParty
    unfolding event
    no_server-misses h = rw h

    pub no_server_checks : has u.servers j.0 ≡ false → event n wins u (Check j) ≡ refused NoSuchParty
    unfolding event
    no_server_checks h = rw h

    module _ (there : has u.servers j.0 ≡ true) where
      pub ups_twice : (server_at u j).up ≡ true → event n wins u (Up j) ≡ refused PartyDown
      unfolding event
      ups_twice h = rw (there, h)

      pub ups : (server_at u j).up ≡ false → event n wins u (Up j) ≡ stepped (came_up u j)
      unfolding event
      ups h = rw (there, h)

      pub downs_twice : (server_at u j).up ≡ false → event n wins u (Down j) ≡ refused PartyDown
      unfolding event
      downs_twice h = rw (there, h)

      pub misses-down : (server_at u j).up ≡ false → event n wins u (Miss j) ≡ refused PartyDown
      unfolding event
      misses-down h = rw (there, h)

      pub checks_down : (server_at u j).up ≡ false → event n wins u (Check j) ≡ refused PartyDown
      unfolding event
      checks_down h = rw (there, h)

      module _ (up : (server_at u j).up ≡ true) where
        pub downs : event n wins u (Down j) ≡ stepped (went_down u j)
        unfolding event
        downs = rw (there, up)

        pub checks : event n wins u (Check j) ≡ stepped (asked u j)
        unfolding event
        checks = rw (there, up)

        pub misses_nobody : (server_at u j).state.owner ≡ None → event n wins u (Miss j) ≡ refused NoOwner
        unfolding event
        misses_nobody h = rw (there, up, h)

        pub misses-living : (o : Request) → (server_at u j).state.owner ≡ Some o → (client_at u o.client).living ≡ true
            → event n wins u (Miss j) ≡ refused OwnerLives
        unfolding event
        misses-living o h l = rw (there, up, h, l)

        pub misses : (o : Request) → (server_at u j).state.owner ≡ Some o → (client_at u o.client).living ≡ false
            → event n wins u (Miss j) ≡ stepped (suspected u j)
        unfolding event
        misses o h l = rw (there, up, h, l)

  module _ (i : MessageNumber) where
    pub takes-nothing : pending i.0 u.transit ≡ None → event n wins u (Take i) ≡ refused NoSuchParty
    unfolding event
    takes-nothing h = rw h

    pub takes : (m : Message) → pending i.0 u.transit ≡ Some m → event n wins u (Take i) ≡ deliver n wins u i.0 m
    unfolding event
    takes m h = rw h

    pub drops-nothing : present i.0 u.transit ≡ false → event n wins u (Drop i) ≡ refused NoSuchParty
    unfolding event
    drops-nothing h = rw h

    pub drops : present i.0 u.transit ≡ true → event n wins u (Drop i) ≡ stepped (dropped u i.0)
    unfolding event
    drops h = rw h
