-- The island of a qubit is exactly what chains of couplers join to it; islands part the chip, and each is connected. Assumes nothing.
use mathlib.Core.Path.{◌≡◌, refl, sym, ap, ◌∙◌, subst}
use mathlib.Core.Logic.{◌⊎◌, inl, inr}
use mathlib.Core.List.{List}
use Prim.Native.Nat.{ℕ, zero, suc, ◌+◌, ◌*◌, ◌/◌, ◌^◌, ◌≤◌, ◌<◌}
use native.Mathlib.Nat.{pow-suc, le_of_suc-le-suc}
use native.Mathlib.Omega.{arith}
use native.Mathlib.Decide.{ℕ_discrete}
use lib.Dec.{lit<}
use lib.ListN.{length, get_or}
use lib.Seq.{ext_get_or}
use lib.Pow.{pow-lt}
use lib.Bits.{bit_and}
use lib.Count.{ones-le}
use Rattle.sets.specs.Bit.{bit, In}
use Rattle.sets.specs.Size.{only_of}
use Rattle.sets.proofs.Bits.{bit-suc, bit-pow-same, bit-cases, zero-ext}
use Rattle.sets.proofs.Members.{in-lt, in-pow, in_and, sub-eq, some-bit, all_in}
use Rattle.sets.proofs.Ones.{ones-pow}
use Rattle.sets.proofs.Words.{only-is}
use Rattle.sets.specs.Tables.{tab}
use Rattle.sets.proofs.Tabling.{tab-length, tab-at}
use Rattle.chip.specs.Graph.{Near, Symm, Chain, here, next, Joined, closure}
use Rattle.isles.specs.Islands.{every_qubit, island_of, islands_from, islands_of}
use Rattle.chip.proofs.Chains.{chain-cat, chain-rev, chain-start, chain-end}
use Rattle.chip.proofs.Growth.{pow-sub}
use Rattle.chip.proofs.Closure.{closure-keeps, closure-chain, closure-fix, fixed-chain}
use Rattle.chip.proofs.Rounds.{closure-lt}

-- every qubit below 20 is in the set of all, and no other
pub every_in : (i : ℕ) → i < 20 → In i every_qubit
every_in i h = all_in 20 i h

-- a member of the set of all qubits is below 20
pub every-low : (i : ℕ) → In i every_qubit → i < 20
every-low i h = in-lt 20 every_qubit i (lit< tt) h

-- a set whose members are below n
below-lt : (n x : ℕ) → ((i : ℕ) → In i x → i < n) → x < 2 ^ n
below-lt zero x f = let z : x ≡ 0 = zero-ext x (λ i. none i (bit-cases x i)) in omega arith
  where
    none : (i : ℕ) → (bit x i ≡ 0) ⊎ (bit x i ≡ 1) → bit x i ≡ 0
    none i (inl e) = e
    none i (inr e) = absurd (omega (arith, f i e))
below-lt (suc n) x f =
    let p : 2 ^ suc n ≡ 2 ^ n * 2 = pow-suc 2 n in
    let h : x / 2 < 2 ^ n = below-lt n (x / 2) (λ i m. le_of_suc-le-suc (f (suc i) (bit-suc x i ∙ m))) in
    omega arith

-- ---- exactly the chains, for any neighbours

module _ (near : List ℕ) where
  -- "Two qubits are on one island when a chain of couplers joins them": both ways
  pub island-chain : (q j : ℕ) → q < 20 → In j (island_of near q) → Chain near every_qubit q j
  unfolding island_of
  island-chain q j h m = closure-chain near every_qubit 20 (2 ^ q) q (λ w p. subst (Chain near every_qubit q) (sym (in-pow q w p)) (here (every_in q h))) j m

  pub chain-island : (q j : ℕ) → Chain near every_qubit q j → In j (island_of near q)
  unfolding island_of
  chain-island q j c =
      fixed-chain near every_qubit (closure near every_qubit 20 (2 ^ q)) q
      (closure-fix near every_qubit 20 (2 ^ q) (pow-sub every_qubit q (chain-start c)) (omega (arith, ones-le 20 every_qubit (lit< tt), ones-pow q)))
      (closure-keeps near every_qubit 20 (2 ^ q) q (bit-pow-same q)) j c

  -- each qubit is on its own island
  pub island-self : (q : ℕ) → q < 20 → In q (island_of near q)
  island-self q h = chain-island q q (here (every_in q h))

  pub island-low : (q j : ℕ) → q < 20 → In j (island_of near q) → j < 20
  island-low q j h m = every-low j (chain-end (island-chain q j h m))

  -- it lies below n where q and all neighbours do
  pub island-below : (n : ℕ) → ((u v : ℕ) → Near near u v → v < n) → (q j : ℕ) → q < 20 → q < n → In j (island_of near q) → j < n
  island-below n few q j h l m = go (island-chain q j h m)
    where
      go : {j : ℕ} → Chain near every_qubit q j → j < n
      go (here k) = l
      go (next {v = u} {w = w} c e k) = few u w e

  pub island-fits : (n : ℕ) → ((u v : ℕ) → Near near u v → v < n) → (q : ℕ) → q < 20 → q < n → island_of near q < 2 ^ n
  island-fits n few q h l = below-lt n (island_of near q) (λ j m. island-below n few q j h l m)

  -- "a qubit without couplers is an island"
  pub island-alone : (q : ℕ) → q < 20 → ((v : ℕ) → Near near q v → ⊥) → island_of near q ≡ 2 ^ q
  island-alone q h none = sub-eq (island_of near q) (2 ^ q) (λ j m. only j (island-chain q j h m)) (λ j m. subst (λ (i : ℕ). In i (island_of near q)) (sym (in-pow q j m)) (island-self q h))
    where
      stay : {j : ℕ} → Chain near every_qubit q j → j ≡ q
      stay (here k) = refl
      stay (next {v = u} {w = w} c e k) = absurd (none w (subst (λ (i : ℕ). Near near i w) (stay c) e))

      only : (j : ℕ) → Chain near every_qubit q j → In j (2 ^ q)
      only j c = subst (λ (i : ℕ). In i (2 ^ q)) (sym (stay c)) (bit-pow-same q)

-- ---- "Couplers have no direction"

module _ (near : List ℕ) (sy : Symm near) where
  -- the island of a member is the same island
  pub island-same : (q j : ℕ) → q < 20 → In j (island_of near q) → island_of near q ≡ island_of near j
  island-same q j h m =
      let c : Chain near every_qubit q j = island-chain near q j h m in
      sub-eq (island_of near q) (island_of near j)
      (λ w k. chain-island near j w (chain-cat (chain-rev sy c) (island-chain near q w h k)))
      (λ w k. chain-island near q w (chain-cat c (island-chain near j w (island-low near q j h m) k)))

  -- two islands are the same or have no qubit in common
  pub island-apart : (p q : ℕ) → p < 20 → q < 20 → (island_of near p ≡ island_of near q) ⊎ (bit_and (island_of near p) (island_of near q) ≡ 0)
  island-apart p q hp hq = go (ℕ_discrete (bit_and (island_of near p) (island_of near q)) 0)
    where
      go : Dec (bit_and (island_of near p) (island_of near q) ≡ 0) → (island_of near p ≡ island_of near q) ⊎ (bit_and (island_of near p) (island_of near q) ≡ 0)
      go (yes z) = inr z
      go (no ne) =
          let r = some-bit (bit_and (island_of near p) (island_of near q)) ne in
          let m = in_and (island_of near p) (island_of near q) r.0 r.1 in
          inl (island-same p r.0 hp m.0 ∙ sym (island-same q r.0 hq m.1))

  -- a coupler joins qubits of one island
  pub island-near : (u v : ℕ) → u < 20 → v < 20 → Near near u v → island_of near u ≡ island_of near v
  island-near u v hu hv n = island-same u v hu (chain-island near u v (next (here (every_in u hu)) n (every_in v hv)))

  -- a chain that starts in an island stays in it
  pub island-stays : (q u v : ℕ) → q < 20 → In u (island_of near q) → Chain near every_qubit u v → Chain near (island_of near q) u v
  island-stays q u v h m (here k) = here m
  island-stays q u v h m (next {v = w} c n k) =
      next (island-stays q u w h m c) n (chain-island near q v (chain-cat (island-chain near q u h m) (next c n k)))

  -- an island is connected
  pub island-joined : (q : ℕ) → q < 20 → Joined near (island_of near q)
  unfolding Joined
  island-joined q h a b ma mb = island-stays q a b h ma (chain-cat (chain-rev sy (island-chain near q a h ma)) (island-chain near q b h mb))

-- ---- the list of all islands

islands-at : (near : List ℕ) (d q i : ℕ) → i < d → get_or (islands_from near d q) i 0 ≡ island_of near (q + i)
unfolding islands_from
islands-at near zero q i h = absurd (omega arith)
islands-at near (suc d) q zero h = ap (island_of near) (omega arith)
islands-at near (suc d) q (suc i) h = islands-at near d (q + 1) i (omega arith) ∙ ap (island_of near) (omega arith)

islands-count : (near : List ℕ) (d q : ℕ) → length (islands_from near d q) ≡ d
unfolding islands_from
islands-count near zero q = refl
islands-count near (suc d) q = ap suc (islands-count near d (q + 1))

pub length-islands : (near : List ℕ) → length (islands_of near) ≡ 20
unfolding islands_of
length-islands near = islands-count near 20 0

pub get_or-islands : (near : List ℕ) (q : ℕ) → q < 20 → get_or (islands_of near) q 0 ≡ island_of near q
unfolding islands_of
get_or-islands near q h = islands-at near 20 0 q h ∙ ap (island_of near) (omega arith)

pub island-lt : (near : List ℕ) (q : ℕ) → q < 20 → island_of near q < 2 ^ 20
unfolding island_of
island-lt near q h = closure-lt near every_qubit 20 20 (2 ^ q) (lit< tt) (pow-lt h)

-- the table of what the search finds from each qubit
pub islands-made : (near all : List ℕ) → all ≡ tab 20 (λ q. closure near every_qubit 20 (only_of q)) → all ≡ islands_of near
unfolding island_of
islands-made near all e =
    e ∙ ext_get_or 0 (tab 20 found) (islands_of near) (tab-length 20 found ∙ sym (length-islands near))
    (λ k (l : k < length (tab 20 found)).
    let h : k < 20 = omega (arith, tab-length 20 found) in
    tab-at 20 found k 0 h ∙ ap (closure near every_qubit 20) (only-is k (omega arith)) ∙ sym (get_or-islands near k h))
  where
    found : ℕ → ℕ
    found q = closure near every_qubit 20 (only_of q)
