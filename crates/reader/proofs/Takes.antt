-- A reader that takes the words u, whatever follows them, and leaves a state of which K holds. Assumes nothing.
use mathlib.Core.Path.{◌≡◌, refl}
use mathlib.Core.List.{List, [], ◌∷◌, ◌++◌, append_assoc}
use Prim.Native.Nat.{ℕ, zero, suc, ◌<◌}
use native.Mathlib.Omega.{arith}
use Rattle.lists.specs.Counted.{up_to}
use Rattle.literals.specs.Words.{word}
use Rattle.reader.specs.Reader.{got, Reader, ◌>>=◌, ret, due, read_up_to}
use Rattle.reader.proofs.Words.{due_word}

pub record Takes {S : Type 0} (rd : Reader S) (u : List ℕ) (K : S → Type 0) : Type 0 where
  pub state : S
  pub holds : K state
  pub reads : (r : List ℕ) → rd (u ++ r) ≡ got state r

pub done : {S : Type 0} {K : S → Type 0} (s : S) → K s → Takes (ret s) [] K
done s k = record { state = s; holds = k; reads = λ r. refl }

pub one : (kind first limit v : ℕ) → v < limit → Takes (due kind first limit) (word kind first v ∷ []) (λ s. s ≡ v)
one kind first limit v h = record { state = v; holds = refl; reads = λ r. due_word kind first limit v r h }

pub then : {S U : Type 0} {rd : Reader S} {f : S → Reader U} {u v : List ℕ} {K : S → Type 0} {L : U → Type 0}
    → Takes rd u K → ((s : S) → K s → Takes (f s) v L) → Takes (rd >>= f) (u ++ v) L
then {rd} {f} {u} {v} a b =
    let c = b a.state a.holds in
    record { state = c.state; holds = c.holds; reads = λ r. rw (append_assoc u v r, a.reads (v ++ r)) (c.reads r) }

-- the state made into another at the end
pub last : {S U : Type 0} {rd : Reader S} {u : List ℕ} {K : S → Type 0} (L : U → Type 0) (f : S → U)
    → Takes rd u K → ((s : S) → K s → L (f s)) → Takes (rd >>= λ s. ret (f s)) u L
last L f a g = record { state = f a.state; holds = g a.state a.holds; reads = λ r. rw (a.reads r) refl }

-- a piece for each number below n
pub loop : {S : Type 0} (f : ℕ → S → Reader S) (words : ℕ → List ℕ) (K : ℕ → S → Type 0) (n : ℕ) (s : S) → K 0 s
    → ((i : ℕ) → i < n → (s : S) → K i s → Takes (f i s) (words i) (K (suc i))) → Takes (read_up_to f n s) (up_to words n) (K n)
unfolding read_up_to up_to
loop f words K zero s k step = done s k
loop f words K (suc n) s k step = then (loop f words K n s k (λ i h. step i (omega arith))) (λ s k. step n (omega arith) s k)
