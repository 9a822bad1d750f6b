-- The epochs of the clients note a server that goes down, client by client; and where an epoch begins its flags are put, server by server.
-- Between the stores the most is not noted, so the words are near a simulation; `note_most` makes them one.
use mathlib.Core.Path.{◌≡◌, refl, sym, ap, subst, ◌∙◌}
use Prim.Native.Nat.{ℕ, zero, suc, ◌+◌, ◌*◌, ◌-◌, ◌≤◌, ◌<◌, max, zero-le}
use native.Mathlib.Omega.{arith}
use mathlib.Core.Bool.{true}
use mathlib.Core.List.{List, [], ◌∷◌, map}
use lib.ListN.{length, get_or, set, take, drop, length-map}
use lib.Seq.{sets, take_all, length-sets}
use borrow.Rule.Slice.PartMut.{put_mid, put_same}
use Rattle.std.specs.Prelude.{if◌then◌else◌}
use Rattle.ids.specs.declared.ServerId.{ServerId}
use Rattle.sim_blocks.proofs.RegionBlocks.{length-blocks}
use Rattle.sim_blocks.specs.Regions.{blocks}
use Rattle.system.specs.Numbered.{put, client_no, server_no}
use Rattle.system.specs.Places.{System, ClientPlace, ServerPlace, no_client, no_server, client_at, server_at, in_epoch, downed, down_from, worst}
use Rattle.sim_blocks.specs.Blocks.{client_place, server_place, cleared, client_block, server_block, flags_from, client_record_size}
use Rattle.sim_blocks.proofs.FlagLaws.{down_bit}
use Rattle.sim_blocks.proofs.ClientLaws.{ClientIs}
use Rattle.sim_blocks.proofs.EpochLaws.{mark-block, flag_next, put-block, cleared-block}
use Rattle.sim_layout.specs.Layout.{setting_of, most_of, client_words, server_words, view, simulation_size, clients_from}
use Rattle.sim_layout.specs.Parts.{client_block_of, server_block_of, ClientIn, ServerIn}
use Rattle.sim_layout.proofs.ViewLaws.{setting_kept, clients-servers}
use Rattle.sim_layout.proofs.PlaceLaws.{client-place, server-place}
use Rattle.sim_layout.proofs.LendLaws.{came_back, client-part, client_block-long}
use Rattle.sim_changes.specs.Changes.{Becomes, HasClient, HasServer, with_clients}
use Rattle.sim_changes.specs.Inner.{with_client}
use Rattle.sim_changes.proofs.Stores.{sets_over, client_block-stored}
use Rattle.sim_changes.proofs.Becoming.{sound, Near, few_clients, few_servers, client_valid, client_near, most-becomes, client-becomes}
use Rattle.system.specs.Limits.{system_clients, system_servers}

near_trans : {w w' w'' : List ℕ} {u v : System} → Near w w' u → Near w' w'' v → Near w w'' v
near_trans a b = record { system = b.system; setting = b.setting ∙ a.setting; again = b.again }

pub clients-long : (w : List ℕ) → length (view w).clients ≡ (setting_of w).clients
unfolding view
clients-long w = length-blocks client_block client_place (setting_of w).clients (client_words w)

pub servers-long : (w : List ℕ) → length (view w).servers ≡ (setting_of w).n
unfolding view
servers-long w = length-blocks server_block server_place (setting_of w).n (server_words w)

-- the most is noted at the end
noted : {w w' : List ℕ} (l : List ClientPlace)
    → Near w w' (record { clients = l; servers = (view w).servers; transit = (view w).transit; sent = (view w).sent; most = (view w).most })
    → (w'' : List ℕ) → w'' ≡ set w' 6 (max (most_of w') (worst (view w').clients)) → Becomes w w'' (with_clients (view w) l)
noted {w} {w'} l N w'' e =
    let B = most-becomes w' N.again in
    let s : view (set w' 6 (max (most_of w') (worst (view w').clients))) ≡ with_clients (view w) l =
    B.system ∙ ap (λ (u : System). with_clients u u.clients) N.system in
    rw e (record { system = s; setting = B.setting ∙ N.setting; again = B.again })

-- the first i clients have noted that server j went down
pub marked : ServerId → ℕ → List ClientPlace → List ClientPlace
marked j zero l = l
marked j (suc i) [] = []
marked j (suc i) (c ∷ l) = downed j c ∷ marked j i l

marked_next : (j : ServerId) (i : ℕ) (l : List ClientPlace) → i < length l
    → set (marked j i l) i (downed j (get_or (marked j i l) i no_client)) ≡ marked j (suc i) l
unfolding marked
marked_next j zero [] h = absurd (omega arith)
marked_next j zero (c ∷ l) h = refl
marked_next j (suc i) [] h = absurd (omega arith)
marked_next j (suc i) (c ∷ l) h = ap (λ (x : List ClientPlace). downed j c ∷ x) (marked_next j i l (omega arith))

marked_all : (j : ServerId) (i : ℕ) (l : List ClientPlace) → length l ≤ i → marked j i l ≡ map (downed j) l
unfolding marked
marked_all j zero [] h = refl
marked_all j (suc i) [] h = refl
marked_all j zero (c ∷ l) h = absurd (omega arith)
marked_all j (suc i) (c ∷ l) h = ap (λ (x : List ClientPlace). downed j c ∷ x) (marked_all j i l (omega arith))

abbrev marked_system : List ℕ → ServerId → ℕ → System
marked_system w j i =
    record { clients = marked j i (view w).clients; servers = (view w).servers; transit = (view w).transit; sent = (view w).sent; most = (view w).most }

-- what `note_down` knows before client i + 1
pub record Marking (w : List ℕ) (j : ServerId) (clients : ℕ) (w' : List ℕ) (i : ℕ) : Type 0 where
  pub has : HasServer w j
  pub count : clients ≡ (setting_of w).clients
  pub within : i ≤ clients
  pub near : Near w w' (marked_system w j i)

module _ (w : List ℕ) (j : ServerId) where
  pub marking_none : HasServer w j → Marking w j (get_or w 3 0) w 0
  unfolding marked setting_of
  marking_none H =
      record { has = H; count = refl; within = omega arith; near = record { system = refl; setting = refl; again = sound w H.valid } }

  module _ (clients : ℕ) (w' : List ℕ) (i : ℕ) (M : Marking w j clients w' i) where
    pub marking_fits : clients ≤ system_clients
    marking_fits = omega (arith, M.count, few_clients w (sound w M.has.valid))

    pub marking_in : i < clients → ClientIn w' (client_no (i + 1)) × (1 ≤ j.0) × (j.0 ≤ system_servers)
    marking_in lt =
        let h : j.0 ≤ system_servers = omega (arith, M.has.last, few_servers w (sound w M.has.valid)) in
        (record { long = M.near.again.long; first = omega arith; last = omega (arith, marking_fits, lt) }, M.has.first, h)

    module _ (lt : i < clients) where
      abbrev block : List ℕ
      block = client_block_of w' (client_no (suc i))

      abbrev stored : List ℕ
      stored = if in_epoch (client_place (client_block_of w' (client_no (suc i)))) then set (client_block_of w' (client_no (suc i)))
          (client_record_size + j.0) 1 else client_block_of w' (client_no (suc i))

      inside : suc i ≤ (setting_of w').clients
      inside = rw M.near.setting (omega (arith, M.count, lt))

      is-marked : ClientIs (setting_of w').n (setting_of w').m (setting_of w').clients (suc i) stored (downed j (client_at (view w') (client_no (suc i))))
      is-marked =
          let v = client_valid w' M.near.again (suc i) (omega arith) inside in
          let n : j.0 ≤ (setting_of w').n = rw M.near.setting M.has.last in
          rw (client-place w' (suc i) (omega arith) inside)
          (mark-block (setting_of w').n (setting_of w').m (setting_of w').clients (suc i) block v j M.has.first n)

      marked_near : Near w (sets w' (clients_from + client_block * (suc i - 1)) stored) (marked_system w j (suc i))
      marked_near =
          let N = client_near w' M.near.again (suc i) stored (downed j (client_at (view w') (client_no (suc i)))) (omega arith) inside is-marked in
          let e : marked_system w j (suc i) ≡ with_client (view w') (client_no (suc i)) (downed j (client_at (view w') (client_no (suc i)))) =
          sym (ap (λ (u : System). with_client u (client_no (suc i)) (downed j (client_at u (client_no (suc i))))) M.near.system ∙
          ap (λ (l : List ClientPlace). record { clients = l; servers = (view w).servers; transit = (view w).transit; sent = (view w).sent; most = (view w).most })
          (marked_next j i (view w).clients (omega (arith, clients-long w, M.count, lt)))) in
          subst (λ (u : System). Near w (sets w' (clients_from + client_block * (suc i - 1)) stored) u) (sym e) (near_trans M.near N)

    pub marking_more : i < clients → (w'' : List ℕ)
        → w'' ≡ sets w' (clients_from + client_block * (i + 1 - 1))
        (if in_epoch (client_place (client_block_of w' (client_no (i + 1)))) then set (client_block_of w' (client_no (i + 1)))
        (client_record_size + j.0) 1 else client_block_of w' (client_no (i + 1)))
        → Marking w j clients w'' (i + 1)
    marking_more lt w'' e =
        let z : i + 1 ≡ suc i = omega arith in
        let e' = rw z at e in
        rw z (record { has = M.has; count = M.count; within = omega (arith, lt); near = rw e' (marked_near lt) })

    pub marking_all : clients ≤ i → (w'' : List ℕ) → w'' ≡ set w' 6 (max (most_of w') (worst (view w').clients))
        → Becomes w w'' (with_clients (view w) (map (downed j) (view w).clients))
    marking_all h w'' e =
        let a = marked_all j i (view w).clients (omega (arith, clients-long w, M.count, h)) in
        subst (λ (l : List ClientPlace). Becomes w w'' (with_clients (view w) l)) a (noted (marked j i (view w).clients) M.near w'' e)

-- the block stored as it is
same-stored : (w : List ℕ) (k : ℕ) → length w ≡ simulation_size → 1 ≤ k → k ≤ system_clients
    → sets w (clients_from + client_block * (k - 1)) (client_block_of w (client_no k)) ≡ w
same-stored w k l p q =
    let z : clients_from + client_block * (k - 1) + client_block - (clients_from + client_block * (k - 1)) ≡ client_block = omega arith in
    sym (came_back w (clients_from + client_block * (k - 1)) client_block (client_block_of w (client_no k)) (client_block-long w k l p q) (omega arith)) ∙
    (ap (λ (x : ℕ). put_mid (clients_from + client_block * (k - 1)) x w (client_block_of w (client_no k))) z ∙
    (ap (λ (b : List ℕ). put_mid (clients_from + client_block * (k - 1)) client_block w b) (sym (client-part w k p q))
    ∙ put_same (clients_from + client_block * (k - 1)) client_block w))

bit_at : (l : List ServerPlace) (i : ℕ) → i < length l → get_or (map down_bit l) i 0 ≡ down_bit (get_or l i no_server)
bit_at [] i h = absurd (omega arith)
bit_at (q ∷ l) zero h = refl
bit_at (q ∷ l) (suc i) h = bit_at l i (omega arith)

-- the flags of the servers, in client k's block
abbrev bits_of : List ℕ → List ℕ
bits_of w = map down_bit (view w).servers

abbrev flagged_to : List ℕ → ℕ → ℕ → List ℕ
flagged_to w k i = sets (client_block_of w (client_no k)) flags_from (take i (map down_bit (view w).servers))

-- what `begin_epoch` knows before server i + 1
pub record Flagging (w : List ℕ) (k n : ℕ) (w' : List ℕ) (i : ℕ) : Type 0 where
  pub has : HasClient w (client_no k)
  pub count : n ≡ (setting_of w).n
  pub within : i ≤ n
  pub words : w' ≡ sets w (clients_from + client_block * (k - 1)) (flagged_to w k i)

-- the first i flags are put
module _ (w : List ℕ) (k : ℕ) (H : HasClient w (client_no k)) where
  last-client : k ≤ system_clients
  last-client = omega (arith, H.last, few_clients w (sound w H.valid))

  long : length w ≡ simulation_size
  long = (sound w H.valid).long

  pub flagging_none : Flagging w k (get_or w 0 0) w 0
  unfolding setting_of
  flagging_none = record { has = H; count = refl; within = omega arith; words = sym (same-stored w k long H.first last-client) }

  flagged-long : (i : ℕ) → length (flagged_to w k i) ≡ client_block
  flagged-long i = length-sets (client_block_of w (client_no k)) flags_from (take i (bits_of w)) ∙ client_block-long w k long H.first last-client

  abbrev flagged-words : ℕ → List ℕ
  flagged-words i = sets w (clients_from + client_block * (k - 1)) (flagged_to w k i)

  flagged-servers : (i : ℕ) → server_words (flagged-words i) ≡ server_words w
  flagged-servers i = clients-servers w (client_block * (k - 1)) (flagged_to w k i) (omega (arith, flagged-long i, last-client, H.first))

  flagged-block : (i : ℕ) → client_block_of (flagged-words i) (client_no k) ≡ flagged_to w k i
  flagged-block i =
      client_block-stored w k (record { long = long; first = H.first; last = last-client }) (flagged_to w k i) (omega (arith, flagged-long i)) (flagged-long i)

  -- the flag of server i + 1
  flag_is : (i x : ℕ) → i < (setting_of w).n → x ≡ (if (server_place (server_block_of (flagged-words i) (server_no (suc i)))).up then 0 else 1)
      → x ≡ get_or (bits_of w) i 0
  flag_is i x h e =
      let a : server_block_of (flagged-words i) (server_no (suc i)) ≡ server_block_of w (server_no (suc i)) =
      ap (λ (l : List ℕ). take server_block (drop ((suc i - 1) * server_block) l)) (flagged-servers i) in
      let p : server_at (view w) (server_no (suc i)) ≡ server_place (server_block_of w (server_no (suc i))) = server-place w (suc i) (omega arith) h in
      e ∙ (ap (λ (b : List ℕ). down_bit (server_place b)) a ∙ (ap down_bit (sym p) ∙ sym (bit_at (view w).servers i (omega (arith, servers-long w, h)))))

  flag_stored : (i x : ℕ) → i < (setting_of w).n → x ≡ get_or (bits_of w) i 0
      → sets (flagged-words i) (clients_from + client_block * (k - 1)) (set (client_block_of (flagged-words i) (client_no k)) (client_record_size + (i + 1)) x)
      ≡ flagged-words (i + 1)
  flag_stored i x h e =
      let l : i < length (bits_of w) = omega (arith, length-map (view w).servers down_bit, servers-long w, h) in
      let b : set (client_block_of (flagged-words i) (client_no k)) (client_record_size + (i + 1)) x ≡ flagged_to w k (i + 1) =
      ap (λ (b : List ℕ). set b (client_record_size + (i + 1)) x) (flagged-block i)
      ∙ (ap (λ (y : ℕ). set (flagged_to w k i) (client_record_size + (i + 1)) y) e ∙ flag_next (client_block_of w (client_no k)) (bits_of w) i l) in
      ap (λ (b : List ℕ). sets (flagged-words i) (clients_from + client_block * (k - 1)) b) b ∙
      sets_over w (clients_from + client_block * (k - 1)) (flagged_to w k i) (flagged_to w k (i + 1)) (omega (arith, flagged-long i, flagged-long (i + 1)))

  -- all flags are put
  flagged_near : in_epoch (client_at (view w) (client_no k)) ≡ true
      → Near w (sets w (clients_from + client_block * (k - 1)) (sets (client_block_of w (client_no k)) flags_from (bits_of w)))
      (with_client (view w) (client_no k)
      (record { living = (client_at (view w) (client_no k)).living; state = (client_at (view w) (client_no k)).state; downs = down_from 1 (view w).servers }))
  flagged_near run =
      let p = client-place w k H.first H.last in
      let v = client_valid w (sound w H.valid) k H.first H.last in
      let B : ClientIs (setting_of w).n (setting_of w).m (setting_of w).clients k (sets (client_block_of w (client_no k)) flags_from (bits_of w))
      (record { living = (client_at (view w) (client_no k)).living; state = (client_at (view w) (client_no k)).state; downs = down_from 1 (view w).servers }) =
      rw p (put-block (setting_of w).n (setting_of w).m (setting_of w).clients k (client_block_of w (client_no k)) v (view w).servers (servers-long w)
      (rw p at run)) in
      client_near w (sound w H.valid) k (sets (client_block_of w (client_no k)) flags_from (bits_of w)) _ H.first H.last B

module _ (w : List ℕ) (k n : ℕ) (w' : List ℕ) (i : ℕ) (P : Flagging w k n w' i) where
  pub flagging_sized : (length w' ≡ simulation_size) × ((setting_of w').clients ≤ system_clients)
  flagging_sized =
      rw P.words (
        length-sets w (clients_from + client_block * (k - 1)) (flagged_to w k i)
            ∙ long w k P.has,
        rw (setting_kept w (clients_from + client_block * (k - 1)) (flagged_to w k i) (omega arith))
            (few_clients w (sound w P.has.valid)),
      )

  pub flagging_fits : n ≤ system_servers
  flagging_fits = omega (arith, P.count, few_servers w (sound w P.has.valid))

  pub flagging_server : i < n → ServerIn w' (server_no (i + 1))
  flagging_server lt = record { long = flagging_sized.0; first = omega arith; last = omega (arith, flagging_fits, lt) }

  pub flagging_client : i < n → ClientIn w' (client_no k) × (1 ≤ i + 1) × (i + 1 ≤ system_servers)
  flagging_client lt = let h : i + 1 ≤ system_servers = omega (arith, flagging_fits, lt) in let g : 1 ≤ i + 1 =
      omega arith in (record { long = flagging_sized.0; first = P.has.first; last = last-client w k P.has }, g, h)

  pub flagging_more : i < n → (x : ℕ) → x ≡ (if (server_place (server_block_of w' (server_no (i + 1)))).up then 0 else 1) → (w'' : List ℕ)
      → w'' ≡ sets w' (clients_from + client_block * (k - 1)) (set (client_block_of w' (client_no k)) (client_record_size + (i + 1)) x) → Flagging w k n w'' (i + 1)
  flagging_more lt x e w'' g =
      let z : i + 1 ≡ suc i = omega arith in
      let s : i < (setting_of w).n = omega (arith, P.count, lt) in
      let e' : x ≡ (if (server_place (server_block_of (flagged-words w k P.has i) (server_no (suc i)))).up then 0 else 1) = rw (P.words, z) at e in
      let g' : w'' ≡ sets (flagged-words w k P.has i) (clients_from + client_block * (k - 1))
      (set (client_block_of (flagged-words w k P.has i) (client_no k)) (client_record_size + (i + 1)) x) = rw P.words at g in
      record { has = P.has; count = P.count; within = omega (arith, lt); words = g' ∙ flag_stored w k P.has i x s (flag_is w k P.has i x s e') }

  pub flagging_all : n ≤ i → in_epoch (client_at (view w) (client_no k)) ≡ true → (w'' : List ℕ) → w'' ≡ set w' 6 (max (most_of w') (worst (view w').clients))
      → Becomes w w'' (with_clients (view w)
      (put (view w).clients k
      (record { living = (client_at (view w) (client_no k)).living; state = (client_at (view w) (client_no k)).state; downs = down_from 1 (view w).servers })))
  flagging_all h run w'' e =
      let t : take i (bits_of w) ≡ bits_of w = take_all i (bits_of w) (omega (arith, length-map (view w).servers down_bit, servers-long w, P.count, h)) in
      let words : w' ≡ sets w (clients_from + client_block * (k - 1)) (sets (client_block_of w (client_no k)) flags_from (bits_of w)) =
      P.words ∙ ap (λ (l : List ℕ). sets w (clients_from + client_block * (k - 1)) (sets (client_block_of w (client_no k)) flags_from l)) t in
      noted (put (view w).clients k
      (record { living = (client_at (view w) (client_no k)).living; state = (client_at (view w) (client_no k)).state; downs = down_from 1 (view w).servers }))
      (flagged_near w k P.has run) w'' (rw words at e)

-- what `note_most` stores
pub few-word : (w : List ℕ) → (setting_of w).clients ≤ system_clients → get_or w 3 0 ≤ system_clients
unfolding setting_of
few-word w h = h

pub noted_words : (w : List ℕ) (x r : ℕ) → x ≡ worst (blocks client_block client_place (get_or w 3 0) (client_words w)) → r ≡ max (get_or w 6 0) x
    → set w 6 r ≡ set w 6 (max (most_of w) (worst (view w).clients))
unfolding view setting_of
noted_words w x r e g = rw (g, e)

-- an epoch ends
module _ (w : List ℕ) (k : ℕ) (H : HasClient w (client_no k)) where
  abbrev flagless : List ℕ
  flagless = client_block_of w (client_no k)

  ending : Becomes w (sets w (clients_from + client_block * (k - 1)) (cleared flagless))
      (with_client (view w) (client_no k) (record { living = (client_at (view w) (client_no k)).living; state = (client_at (view w) (client_no k)).state; downs = [] }))
  ending =
      let B : ClientIs (setting_of w).n (setting_of w).m (setting_of w).clients k (cleared flagless)
      (record { living = (client_at (view w) (client_no k)).living; state = (client_at (view w) (client_no k)).state; downs = [] }) =
      rw (client-place w k H.first H.last)
      (cleared-block (setting_of w).n (setting_of w).m (setting_of w).clients k flagless (client_valid w (sound w H.valid) k H.first H.last)) in
      client-becomes w H.valid k (cleared flagless) _ H.first H.last B zero-le

pub epoch_ends : (w : List ℕ) (k : ℕ) → HasClient w (client_no k) → (w' : List ℕ)
    → w' ≡ sets w (clients_from + client_block * (k - 1)) (cleared (client_block_of w (client_no k)))
    → Becomes w w' (with_client (view w) (client_no k)
    (record { living = (client_at (view w) (client_no k)).living; state = (client_at (view w) (client_no k)).state; downs = [] }))
epoch_ends w k H w' e = rw e (ending w k H)
