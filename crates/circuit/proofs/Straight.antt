-- A list of gates read as if no wire were flipped: the angles on flipped wires are turned round, and parities and sums stay. Assumes nothing.
use mathlib.Core.Path.{◌≡◌, refl, sym, ap, ap₂, ◌∙◌}
use mathlib.Core.Bool.{Bool, true, false}
use mathlib.Core.List.{List, [], ◌∷◌, ◌++◌}
use Prim.Native.Nat.{ℕ, ◌+◌, ◌-◌, ◌%◌, ◌<◌}
use native.Mathlib.Omega.{arith}
use lib.Dec.{eqb}
use lib.ListN.{get_or}
use Rattle.sets.specs.Pick.{pick}
use Rattle.gates.specs.declared.gate.Gate.{Gate}
use Rattle.gates.specs.declared.gate.Gate.TheVariants.{Cnot, Rotation, X, Bad}
use Rattle.gates.specs.Layout.{Good}
use Rattle.sets.specs.Lists.{All}
use Rattle.gates.specs.Listed.{OnCoupler}
use Rattle.circuit.specs.Circuit.{step, run, start, gives, given, takes, gives_on, given_on, sum_of}
use Rattle.circuit.specs.Flips.{flip_step, flip_run, no_flips}
use Rattle.circuit.proofs.Circuits.{given-snoc}

-- the gate that gives without flips what g gives with them
unfoldable pub straightened : Gate → List ℕ → Gate
straightened (Cnot c t) F = Cnot c t
straightened (Rotation q a) F = Rotation q (takes (get_or F q 0) a)
straightened (X q) F = X q
straightened Bad F = Bad

unfoldable pub straight : List Gate → List ℕ → List Gate
straight [] F = []
straight (g ∷ gs) F = straightened g F ∷ straight gs (flip_step g F)

pub step-straight : (g : Gate) (F W : List ℕ) → step (straightened g F) W ≡ step g W
unfolding step straightened
step-straight (Cnot c t) F W = refl
step-straight (Rotation q a) F W = refl
step-straight (X q) F W = refl
step-straight Bad F W = refl

run-straight : (gs : List Gate) (F W : List ℕ) → run (straight gs F) W ≡ run gs W
unfolding run straight
run-straight [] F W = refl
run-straight (g ∷ gs) F W = ap (run (straight gs (flip_step g F))) (step-straight g F W) ∙ run-straight gs (flip_step g F) (step g W)

gives-straight : (p : ℕ) (g : Gate) (W F : List ℕ) → gives_on p g W F ≡ gives p (straightened g F) W
unfolding gives gives_on straightened
gives-straight p (Cnot c t) W F = refl
gives-straight p (Rotation q a) W F = refl
gives-straight p (X q) W F = refl
gives-straight p Bad W F = refl

given-straight : (p : ℕ) (gs : List Gate) (W F : List ℕ) → given_on p gs W F ≡ given p (straight gs F) W
unfolding given given_on straight
given-straight p [] W F = refl
given-straight p (g ∷ gs) W F =
    ap₂ (λ (a b : ℕ). a + b) (gives-straight p g W F)
    (given-straight p gs (step g W) (flip_step g F) ∙ ap (given p (straight gs (flip_step g F))) (sym (step-straight g F W)))

-- the sum of a parity, by a list whose angles are turned round where the wire is flipped
pub sum-straight : (p : ℕ) (gs : List Gate) → sum_of p gs ≡ given p (straight gs no_flips) start % 65536
unfolding sum_of
sum-straight p gs = ap (λ (m : ℕ). m % 65536) (given-straight p gs start no_flips)

straight-snoc : (gs : List Gate) (g : Gate) (F : List ℕ) → straight (gs ++ g ∷ []) F ≡ straight gs F ++ straightened g (flip_run gs F) ∷ []
unfolding straight flip_run
straight-snoc [] g F = refl
straight-snoc (x ∷ gs) g F = ap (λ (l : List Gate). straightened x F ∷ l) (straight-snoc gs g (flip_step x F))

-- one gate more
pub sum-snoc : (p : ℕ) (gs : List Gate) (g : Gate) → sum_of p (gs ++ g ∷ []) ≡ (sum_of p gs + gives p (straightened g (flip_run gs no_flips)) (run gs start)) % 65536
sum-snoc p gs g =
    let h : Gate = straightened g (flip_run gs no_flips) in
    sum-straight p (gs ++ g ∷ []) ∙ ap (λ (l : List Gate). given p l start % 65536) (straight-snoc gs g no_flips)
    ∙ ap (λ (m : ℕ). m % 65536) (given-snoc p (straight gs no_flips) h start ∙ ap (λ (W : List ℕ). given p (straight gs no_flips) start + gives p h W) (run-straight gs no_flips start))
    ∙ omega (arith, sum-straight p gs)

pub straight-rotation : (q a : ℕ) (F : List ℕ) → straightened (Rotation q a) F ≡ Rotation q (takes (get_or F q 0) a)
unfolding straightened
straight-rotation q a F = refl

takes-small : (f a : ℕ) → a < 65536 → takes f a < 65536
unfolding takes
takes-small f a h = go (eqb f 0)
  where
    go : (b : Bool) → pick b a ((65536 - a % 65536) % 65536) < 65536
    go true = h
    go false = omega arith

pub straight-good : (n : ℕ) (gs : List Gate) (F : List ℕ) → All (Good n) gs → All (Good n) (straight gs F)
unfolding All Good straight straightened
straight-good n [] F a = tt
straight-good n (Cnot c t ∷ gs) F a = (a.0, straight-good n gs (flip_step (Cnot c t) F) a.1)
straight-good n (Rotation q v ∷ gs) F a = ((a.0.0, takes-small (get_or F q 0) v a.0.1), straight-good n gs (flip_step (Rotation q v) F) a.1)
straight-good n (X q ∷ gs) F a = (a.0, straight-good n gs (flip_step (X q) F) a.1)
straight-good n (Bad ∷ gs) F a = (a.0, straight-good n gs (flip_step Bad F) a.1)

pub straight-coupled : (couplers : List ℕ) (gs : List Gate) (F : List ℕ) → All (OnCoupler couplers) gs → All (OnCoupler couplers) (straight gs F)
unfolding All OnCoupler straight straightened
straight-coupled cs [] F a = tt
straight-coupled cs (Cnot c t ∷ gs) F a = (a.0, straight-coupled cs gs (flip_step (Cnot c t) F) a.1)
straight-coupled cs (Rotation q v ∷ gs) F a = (tt, straight-coupled cs gs (flip_step (Rotation q v) F) a.1)
straight-coupled cs (X q ∷ gs) F a = (tt, straight-coupled cs gs (flip_step (X q) F) a.1)
straight-coupled cs (Bad ∷ gs) F a = (tt, straight-coupled cs gs (flip_step Bad F) a.1)
