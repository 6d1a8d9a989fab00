use Rattle.std.proofs.Common.{ℕ, ◌≤◌, ◌<◌, ◌+◌, ◌*◌, ◌≡◌, refl, ◌∙◌, List, [], ◌∷◌, arith, length, get_or, set, length-set}
use Rattle.lists.specs.Counted.{up_to}
use Rattle.lists.specs.Written.{written}
use Rattle.context.specs.Map.{row_at, col_at}
use Rattle.near.specs.Near.{Below}
use Rattle.emit.specs.declared.Coder.{Coder}
use Rattle.emit.specs.Keys.{key_of, Coded, KeysIn, Readable, word_by}
use Rattle.emit.specs.Lines.{word_in}
use Rattle.emit.proofs.Keys.{below_all, past_first, key_low, code_low, word_by_key, extends_then}
use Rattle.emit.proofs.Coder.emit_keyed.Goals as goal

first_word : (f : ℕ → ℕ) (l : List ℕ) (at v : ℕ) → v ≡ f 0 → set l at v ≡ written l at (up_to (λ b. f b ∷ []) 1)
unfolding up_to written
first_word f l at v e = rw e refl

-- the key of a cell
module _ (s : Coder) (keys : List ℕ) (l count : ℕ) (first : 0 < l) (held : KeysIn s.map.cells.now s.map.w s.map.transposed l count keys)
    (b : ℕ) (h : 1 ≤ b) (g : b < count) where
  abbrev map : List ℕ
  map = s.map.cells.now

  abbrev codes : List ℕ
  codes = s.codes.now.table.now

  abbrev y : ℕ
  y = row_at s.map.transposed l b

  abbrev x : ℕ
  x = col_at s.map.transposed l b

  low : Below map s.map.n
  low = below_all map s.map.n (omega (arith, s.map.inside.two)) s.map.inside.below

  coded : Coded s.map.n codes s.words.now
  coded = record { table = s.codes.now.is_table; each = s.coded }

  past : (0 < y) × (0 < x)
  past = past_first s.map.transposed l b first (omega arith)

  is : get_or keys b 0 ≡ key_of map s.map.w (y * s.map.w + x)
  is = held b (omega arith) g

  near : get_or keys b 0 < 4096
  near = rw is (key_low map codes s.words.now s.map.w s.map.n y x s.map.inside.two s.map.inside.eight low past.0 past.1 coded)

  code : get_or codes (get_or keys b 0) 0 < 40
  code = rw is (code_low map codes s.words.now s.map.w s.map.n y x s.map.inside.two s.map.inside.eight low past.0 past.1 coded)

  word : word_by codes s.words.now keys b ≡ word_in s.map l b
  word = rw is (word_by_key map codes s.words.now s.map.w s.map.n y x s.map.inside.two s.map.inside.eight low past.0 past.1 coded)

-- all of them
readable : (s : Coder) (keys : List ℕ) (l count : ℕ) → 0 < l → KeysIn s.map.cells.now s.map.w s.map.transposed l count keys
    → (from to : ℕ) → 1 ≤ from → to ≤ count → Readable s.codes.now.table.now keys from to
readable s keys l count first held from to p q b u v =
    (near s keys l count first held b (omega arith) (omega arith), code s keys l count first held b (omega arith) (omega arith))

pub emit_keys-requires : goal.emit_keys-requires
emit_keys-requires c =
    let s = c.args in
    let l = c.loop-a in
    let kept : length l.out ≡ length s.out.now = l.invariant.2 ∙ length-set s.out.now s.at c.line_word.result in
    let inside : l.a + 8 ≤ s.count = c.loop-a-test.true in (
      omega arith,
      omega (arith, inside, c.requires.count_bound.2),
      omega (arith, kept, inside, c.requires.count_in_bounds),
      readable s.self.now s.keys.now s.l s.count c.requires.l_bound.0 c.requires.held l.a (l.a + 8) l.invariant.0 inside,
    )

pub loop-a-preserved : goal.loop-a-preserved
loop-a-preserved c =
    let l = c.loop-a in (
      omega (arith, l.invariant.0),
      omega (arith, c.loop-a-test.true),
      c.emit_keys.auto.out ∙ l.invariant.2,
      extends_then _ _ l.a c.args.at _ l.out l.invariant.0 l.invariant.3 _ _ (omega arith) c.emit_keys.ensures,
    )

pub emit_keys-requires-2 : goal.emit_keys-requires-2
emit_keys-requires-2 c =
    let s = c.args in
    let l = c.loop-a in
    let kept : length l.out ≡ length s.out.now = l.invariant.2 ∙ length-set s.out.now s.at c.line_word.result in
    let inside : s.count ≤ s.count = omega arith in (
      l.invariant.1,
      c.requires.count_bound.2,
      omega (arith, kept, inside, c.requires.count_in_bounds),
      readable s.self.now s.keys.now s.l s.count c.requires.l_bound.0 c.requires.held l.a s.count l.invariant.0 inside,
    )

pub returns-clause-out_after : goal.returns-clause-out_after
returns-clause-out_after c =
    let s = c.args in
    let l = c.loop-a in
    let out = s.out.now in
    let all = extends_then _ _ l.a s.at _ l.out l.invariant.0 l.invariant.3 _ _ l.invariant.1 c.emit_keys-2.ensures in
    all _ (word s.self.now s.keys.now s.l s.count c.requires.l_bound.0 c.requires.held) out
    (first_word _ out s.at c.line_word.result c.line_word.ensures)
