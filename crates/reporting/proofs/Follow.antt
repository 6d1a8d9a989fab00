-- Palettes one after the other have a block each; a byte behind the 9,999th is 19. Assumes nothing.
use Prim.Native.Nat.{ℕ, zero, suc}
use mathlib.Core.Path.{◌≡◌, refl, ap, ◌∙◌}
use mathlib.Core.List.{List, [], ◌∷◌, ◌++◌, map, append_assoc}
use native.Mathlib.Omega.{arith}
use lib.ListN.{length, length-append}
use lib.Seq.{drop_at}
use borrow.Author.Tests.{ne_eqb}
use Rattle.blocks.specs.declared.Block.{Block}
use Rattle.blocks.specs.Block.{refused_block, block_of}
use Rattle.blocks.proofs.Front.{block_front}
use Rattle.reporting.specs.Report.{blocks_of}
use Rattle.reporting.specs.Follow.{Whole, Follow, none, next, EachItsBlock}

-- a whole text in front
whole_front : (u s : List ℕ) → Whole u → (left : ℕ) → blocks_of (suc left) (u ++ s) ≡ block_of u ∷ blocks_of left s
unfolding blocks_of
whole_front u s w left =
    let known : (block_of u).taken ≡ 0 → ⊥ = λ z. omega (arith, z, w.some, w.taken) in
    let some : length (u ++ s) ≡ 0 → ⊥ = λ z. omega (arith, z, w.some, length-append u s) in
    rw (
      ne_eqb (length (u ++ s)) 0 some,
      block_front u known s,
      ne_eqb (block_of u).taken 0 known,
      w.taken,
      drop_at u s (length u) refl,
    ) refl

pub each_its_block : EachItsBlock
each_its_block [] t s none left n e = let z : n ≡ left = omega arith in rw z refl
each_its_block (u ∷ us) t s (next {s = rest} w f) left zero e = absurd (omega (arith, e))
each_its_block (u ∷ us) t s (next {s = rest} w f) left (suc n) e =
    ap (λ (l : List ℕ). blocks_of (suc n) l) (append_assoc u rest s)
    ∙ whole_front u (rest ++ s) w n
    ∙ ap (λ (bs : List Block). block_of u ∷ bs) (each_its_block us rest s f left n (omega (arith, e)))

-- a byte where no more palettes are read
one_more : (byte : ℕ) (s : List ℕ) → blocks_of 0 (byte ∷ s) ≡ refused_block 19 0 ∷ []
unfolding blocks_of
one_more byte s = rw (ne_eqb (length (byte ∷ s)) 0 (λ z. omega (arith, z))) refl

-- 9,999 palettes, and a byte behind them
pub byte_too_many : (us : List (List ℕ)) (t : List ℕ) → Follow us t → 9999 ≡ length us → (byte : ℕ) (s : List ℕ)
    → blocks_of 9999 (t ++ (byte ∷ s)) ≡ map block_of us ++ (refused_block 19 0 ∷ [])
byte_too_many us t f e byte s =
    each_its_block us t (byte ∷ s) f 0 9999 (omega (arith, e)) ∙ ap (λ (bs : List Block). map block_of us ++ bs) (one_more byte s)
