-- A finite value, or +infinity: what levels that cannot be cut into so many groups cost.
use mathlib.Core.Path.{◌≡◌, refl}
use mathlib.Core.Logic.{◌⊎◌, inl, inr}
use mathlib.Core.Bool.{false}
use Prim.Native.Nat.{ℕ, ◌+◌}
use lib.Ieee.{Float, inf, fin, nan, binary64, add, lt}
use Rattle.lists.proofs.Choice.{either_way}
use Rattle.ieee.specs.Bounds.{Under}
use Rattle.ieee.proofs.Bounds.{Rep, add_under}
use Rattle.groups.specs.declared.Best.{Best}
use Rattle.groups.specs.Groups.{cheaper}

abbrev pub Mild : ℕ → Float → Type 0
Mild A x = Under x A ⊎ (x ≡ inf false)

inf_add : (y : Float) (B : ℕ) → Under y B → add binary64 (inf false) y ≡ inf false
unfolding add
inf_add nan B u = elim u [ ]
inf_add (inf _) B u = elim u [ ]
inf_add (fin s m e) B u = refl

inf_lt : (y : Float) (B : ℕ) → Under y B → lt (inf false) y ≡ false
unfolding lt
inf_lt nan B u = elim u [ ]
inf_lt (inf _) B u = elim u [ ]
inf_lt (fin s m e) B u = refl

pub add_mild : (x y : Float) (A B : ℕ) → Mild A x → Under y B → Rep binary64 (A + B) → Mild (A + B) (add binary64 x y)
add_mild x y A B (inl u) v r = inl (add_under binary64 x y A B u v r)
add_mild x y A B (inr e) v r = inr (rw e (inf_add y B v))

pub cheaper_mild : (A : ℕ) (b : Best) (c : Float) (i : ℕ) → Mild A b.cost → Mild A c → Mild A (cheaper b c i).cost
cheaper_mild A b c i p q = either_way (λ x. Mild A x.cost) (lt c b.cost) (record { cost = c; cut = i }) b q p

-- +infinity never replaces a finite cost
pub cheaper_under : (A : ℕ) (b : Best) (c : Float) (i : ℕ) → Under b.cost A → Mild A c → Under (cheaper b c i).cost A
cheaper_under A b c i p (inl q) =
    either_way (λ x. Under x.cost A) (lt c b.cost) (record { cost = c; cut = i }) b q p
cheaper_under A b c i p (inr e) = rw (e, inf_lt b.cost A p) p
