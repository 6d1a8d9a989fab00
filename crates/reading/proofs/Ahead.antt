-- Colours and orientation, read ahead of the lines; and the palette that lines behind them give. Assumes nothing.
use mathlib.Core.Path.{◌≡◌, refl, sym, ap, ◌∙◌}
use mathlib.Core.Bool.{Bool, true, false}
use mathlib.Core.List.{List}
use Prim.Native.Nat.{ℕ, ◌*◌, ◌≤◌}
use native.Mathlib.Omega.{arith}
use lib.Dec.{eqb}
use lib.ListN.{length, length-replicate}
use Rattle.counts.specs.Counts.{orient_sent}
use Rattle.lists.proofs.Zeros.{zeros_below}
use Rattle.near.specs.Near.{Below}
use Rattle.scan.specs.declared.Scan.{Scan}
use Rattle.scan.specs.Scan.{scan_of, Sound}
use Rattle.scan.proofs.Scans.{scan_sound}
use Rattle.accept.specs.Palette as rules
use Rattle.accept.specs.Palette.{first_colors}
use Rattle.accept.specs.Accepted.{sides_ok}
use Rattle.accept.specs.declared.Palette.{Palette}
use Rattle.accept.specs.Answer.{uncounted}
use Rattle.accept.proofs.Accepted.{sides_at}
use Rattle.accept.proofs.Levels.{first_colors_holds}
use Rattle.reader.specs.Reader.{Got, got, after, ret, due}
use Rattle.reader.specs.Steps.{left}
use Rattle.read_colors.specs.Colors.{read_colors, in_eight}
use Rattle.read_colors.specs.Held.{colors_in}
use Rattle.read_colors.proofs.Inserted.{length_held, length_eight}
use Rattle.read_map.specs.Map.{Lines, read_lines}
use Rattle.reading.specs.Reading.{read_orient, no_lines, read_palette, back, answer}
use Rattle.reading.specs.Steps.{Headed, Blank, palette_in}
use Rattle.reading.specs.declared.Head.{Head}

-- ---- the orientation

module _ (w h : ℕ) (vs : List ℕ) where
  pub orient_plain : orient_sent w h ≡ false → read_orient w h vs ≡ got false vs
  unfolding read_orient
  orient_plain e = rw e refl

  pub orient_told : orient_sent w h ≡ true → (g : Got ℕ) → due 1 1 2 vs ≡ g → read_orient w h vs ≡ after g (λ b. ret (eqb b 1))
  unfolding read_orient
  orient_told e g k = rw e (ap (λ (g : Got ℕ). after g (λ b. ret (eqb b 1))) k)

-- ---- colours and orientation

-- what follows the orientation, and what follows the colours
abbrev ending : ℕ → ℕ → List ℕ → Bool → List ℕ → Got rules.Palette
ending w h cs t us =
    after (read_lines (length cs) (scan_of w h t) (no_lines w h t) us) (λ s. ret (record { colors = cs; transposed = t; flags = s.flags; map = s.map }))

abbrev turning : ℕ → ℕ → List ℕ → List ℕ → Got rules.Palette
turning w h cs vs = after (read_orient w h vs) (ending w h cs)

module _ (w h bd : ℕ) (cache ws : List ℕ) where
  pub colors_first : (g : Got (List ℕ)) → read_colors bd cache ws ≡ g → read_palette w h bd cache ws ≡ after g (turning w h)
  unfolding read_palette
  colors_first g e = ap (λ (g : Got (List ℕ)). after g (turning w h)) e

  pub orient_next : (cs vs : List ℕ) → read_colors bd cache ws ≡ got cs vs → (g : Got Bool) → read_orient w h vs ≡ g
      → read_palette w h bd cache ws ≡ after g (ending w h cs)
  orient_next cs vs e g f = colors_first (got cs vs) e ∙ ap (λ (g : Got Bool). after g (ending w h cs)) f

pub headed : (b : Head) → sides_ok b.width b.height ≡ true → 2 ≤ b.held.count → (vs : List ℕ)
    → read_colors b.bd b.cache.now b.words.now ≡ got (colors_in b.held) vs
    → read_orient b.width b.height vs ≡ got b.transposed (left b.reading) → Headed b
headed b sides two vs e f = record {
  sides = sides;
  two = two;
  reads = orient_next b.width b.height b.bd b.cache.now b.words.now (colors_in b.held) vs e (got b.transposed (left b.reading)) f
      ∙ ap (λ (n : ℕ). after (read_lines n (scan_of b.width b.height b.transposed) (no_lines b.width b.height b.transposed) (left b.reading))
      (λ s. ret (record { colors = colors_in b.held; transposed = b.transposed; flags = s.flags; map = s.map })))
      (length_held b.held);
}

-- ---- the lines behind them

module _ (b : Head) (x : Headed b) where
  first_are : first_colors b.held.colors b.held.count ≡ colors_in b.held
  first_are = first_colors_holds b.held.colors (length_eight b.held) b.held.count b.held.few

  pub lines_last : (s : Scan) (cells₀ lines₀ : List ℕ) → s ≡ scan_of b.width b.height b.transposed → Blank b cells₀ lines₀
      → (g : Got Lines) → read_lines b.held.count s (record { flags = lines₀; map = cells₀ }) (left b.reading) ≡ g
      → read_palette b.width b.height b.bd b.cache.now b.words.now ≡ after g (λ s. ret (palette_in b s.map s.flags))
  lines_last s cells₀ lines₀ is blank g e =
      x.reads
      ∙ ap (λ (g : Got Lines). after g (λ s. ret (record { colors = colors_in b.held; transposed = b.transposed; flags = s.flags; map = s.map })))
      (rw (is, blank.no_cell, blank.no_line) at e)
      ∙ ap (λ (l : List ℕ). after g (λ s. ret (record { colors = l; transposed = b.transposed; flags = s.flags; map = s.map }))) (sym first_are)

  pub answer_is : (cells lines : List ℕ) → ◌≡◌ {A = Palette}
      (uncounted 0 b.held.count b.held.colors b.transposed) (answer (back (palette_in b cells lines)))
  answer_is cells lines =
      let count : length (first_colors b.held.colors b.held.count) ≡ b.held.count = ap length first_are ∙ length_held b.held in
      let eight : b.held.colors ≡ in_eight (first_colors b.held.colors b.held.count) =
      b.held.eight ∙ ap (λ (l : List ℕ). in_eight l) (sym first_are) in
      ap (λ (k : ℕ). uncounted 0 k b.held.colors b.transposed) (sym count)
      ∙ ap (λ (l : List ℕ). uncounted 0 (length (first_colors b.held.colors b.held.count)) l b.transposed) eight

  -- ---- what the code asks

  module _ (s : Scan) (cells₀ lines₀ : List ℕ) (is : s ≡ scan_of b.width b.height b.transposed) (blank : Blank b cells₀ lines₀) where
    pub scan_ready : Sound s (length cells₀)
    scan_ready =
        let z = sides_at b.width b.height x.sides in
        rw (is, blank.no_cell, length-replicate {A = ℕ} (b.width * b.height) 0) (scan_sound b.width b.height b.transposed z.0.0 z.0.1 z.1.0 z.1.1)

    pub flag_each : length lines₀ ≡ s.lines
    flag_each = rw (is, blank.no_line) (length-replicate {A = ℕ} (scan_of b.width b.height b.transposed).lines 0)

    pub none_above : Below cells₀ b.held.count
    none_above i = rw blank.no_cell (zeros_below (b.width * b.height) b.held.count i (omega (arith, x.two)))
