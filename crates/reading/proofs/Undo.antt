-- Listing and reading undo each other. Assumes nothing.
use mathlib.Core.Path.{◌≡◌, refl, sym, ap, subst, ◌∙◌}
use mathlib.Core.Bool.{Bool, true, false, cond, not, ◌||◌}
use mathlib.Core.List.{List, [], ◌∷◌, ◌++◌, append-nil}
use Prim.Native.Nat.{ℕ, ◌*◌, max}
use native.Mathlib.Omega.{arith}
use lib.Dec.{eqb}
use lib.ListN.{length}
use lib.Seq.{ext_get_or}
use borrow.Author.Tests.{eqb-true, le-leb}
use Rattle.lists.specs.Counted.{bit}
use Rattle.lists.proofs.Choice.{and_l, and_r}
use Rattle.counts.specs.Counts.{orient_sent}
use Rattle.scan.proofs.Scans.{scan_sound, lines_are}
use Rattle.literals.specs.Words.{bypass}
use Rattle.accept.specs.Palette.{Palette}
use Rattle.accept.specs.Accepted.{orient_ok, refusal, Accepted}
use Rattle.accept.proofs.Accepted.{facts, accepted_of_zero, zero_of_accepted}
use Rattle.emit.specs.Colors.{color_words}
use Rattle.emit.specs.Map.{orient_words, map_words}
use Rattle.listing.specs.Listing.{call_list}
use Rattle.listing.proofs.Begins.{fits}
use Rattle.listing.proofs.Lines.{maps_same, seen_at}
use Rattle.reader.specs.Reader.{Got, got, fault, Reader, ◌>>=◌, ret, due}
use Rattle.read_colors.specs.Colors.{read_colors}
use Rattle.reading.specs.Reading.{read_orient, read_palette, relists, back, refused, judge, limits, reading}
use Rattle.reading.specs.Undo.{ListedIsRead, ReadIsListed, ReadExactlySame}
use Rattle.lists.proofs.Same.{same_is, same_refl}
use Rattle.reader.proofs.Words.{bit_below, bit_eqb}
use Rattle.reading.proofs.Colors.{colors_read}
use Rattle.reader.proofs.Takes.{Takes, done, one, then, last}
use Rattle.reading.proofs.Answers.{passed_on}
use Rattle.reading.proofs.Lines.{lines_read}

-- ---- what is listed is read

orient_takes : (w h : ℕ) (t : Bool) → orient_ok w h t ≡ true → Takes (read_orient w h) (orient_words w h t) (λ s. s ≡ t)
unfolding orient_ok read_orient orient_words
orient_takes w h t a = go (orient_sent w h) a
  where
    plain : (t : Bool) → not t || false ≡ true → false ≡ t
    plain true a = a
    plain false a = refl

    go : (c : Bool) → not t || c ≡ true
        → Takes (cond c (due 1 1 2 >>= λ b. ret (eqb b 1)) (ret false)) (cond c (bypass 1 (bit t) ∷ []) []) (λ s. s ≡ t)
    go true a = last (λ s. s ≡ t) (λ b. eqb b 1) (one 1 1 2 (bit t) (bit_below t)) (λ b e. ap (λ (x : ℕ). eqb x 1) e ∙ bit_eqb t)
    go false a = done false (plain t a)

-- the same words, written otherwise
words_as : {S : Type 0} {rd : Reader S} {u v : List ℕ} {K : S → Type 0} → u ≡ v → Takes rd u K → Takes rd v K
words_as {rd = rd} {K = K} e x = subst (λ l. Takes rd l K) e x

palette_takes : (w h bd : ℕ) (cache : List ℕ) (p : Palette) → Accepted w h bd cache p
    → Takes (read_palette w h bd cache) (call_list w h bd cache p) (λ s. s ≡ p)
unfolding read_palette call_list map_words
palette_takes w h bd cache p a =
    let f = facts w h bd cache p a in
    let t = p.transposed in
    let c : Takes (read_colors bd cache) (color_words bd cache p.colors) (λ s. s ≡ p.colors) = record {
      state = p.colors;
      holds = refl;
      reads = λ r. colors_read bd f.deep f.deep_most cache p.colors r f.enough f.few f.levels;
    } in
    let sound = scan_sound w h t f.wide f.wide_most f.high f.high_most in
    then c λ cs e. then (orient_takes w h p.transposed a.orient) λ s q.
    rw (e, q)
    (last (λ s. s ≡ p) (λ s. record { colors = p.colors; transposed = p.transposed; flags = s.flags; map = s.map })
    (words_as (rw ((lines_are w h t).0, (lines_are w h t).1) refl)
    (lines_read t w h (length p.colors) p.flags p.map sound (rw ((lines_are w h t).0, (lines_are w h t).1) (fits w h bd p f)) f.index))
    (λ s k.
    let x : s.flags ≡ p.flags =
    ext_get_or 0 s.flags p.flags (k.count ∙ (lines_are w h t).0 ∙ sym f.flag_length) (λ i g. k.flag i (omega (arith, k.count))) in
    let y : s.map ≡ p.map =
    maps_same w h s.map p.map f.wide k.good.size f.map_length
    (seen_at t w h s.map p.map (rw ((lines_are w h t).0, (lines_are w h t).1) at k.good.seen)) in
    rw (x, y) refl))

-- whatever follows the list
pub read_back : (w h bd : ℕ) (cache : List ℕ) (p : Palette) (r : List ℕ) → Accepted w h bd cache p
    → read_palette w h bd cache (call_list w h bd cache p ++ r) ≡ got p r
read_back w h bd cache p r a =
    let s = palette_takes w h bd cache p a in
    s.reads r ∙ ap (λ (x : Palette). got x r) s.holds

-- ---- what is read is listed

refused_not_back : (k : ℕ) (p : Palette) → refused k ≡ back p → ⊥
refused_not_back k p e = let z : ◌≡◌ {A = ℕ} 0 1 = cc in omega arith

module _ (w h bd : ℕ) (cache ws : List ℕ) (p : Palette) where
  -- accepted, and this is its list
  abbrev Listed : Type 0
  Listed = Accepted w h bd cache p × (ws ≡ call_list w h bd cache p)

  judged : (o : Got Palette) → judge w h bd cache ws o ≡ back p → Listed
  unfolding judge relists
  judged (fault k) e = absurd (refused_not_back k p e)
  judged (got q (x ∷ xs)) e = absurd (refused_not_back 22 p e)
  judged (got q []) e = go (relists w h bd cache q ws) refl e
    where
      go : (b : Bool) → relists w h bd cache q ws ≡ b → cond b (back q) (refused 23) ≡ back p → Listed
      go false f e = absurd (refused_not_back 23 p e)
      go true f e =
          let r : q ≡ p = cc in
          let z : refusal w h bd (length cache) q ≡ 0 = eqb-true _ 0 (and_l (eqb (refusal w h bd (length cache) q) 0) _ f) in
          let l : call_list w h bd cache q ≡ ws = same_is _ ws (and_r (eqb (refusal w h bd (length cache) q) 0) _ f) in
          (rw r at (accepted_of_zero w h bd cache q z), rw r at (sym l))

-- ---- the theorems

pub list_of_read : ReadIsListed
unfolding reading
list_of_read w h bd cache p cells lines ws = go (limits w h bd (length cache) cells lines) (eqb (limits w h bd (length cache) cells lines) 0)
  where
    go : (k : ℕ) (b : Bool) → cond b (judge w h bd cache ws (read_palette w h bd cache ws)) (refused k) ≡ back p
        → Accepted w h bd cache p × (ws ≡ call_list w h bd cache p)
    go k true e = judged w h bd cache ws p (read_palette w h bd cache ws) e
    go k false e = absurd (refused_not_back k p e)

pub read_of_list : ListedIsRead
unfolding reading limits judge relists
read_of_list w h bd cache p cells lines g k a =
    let list = call_list w h bd cache p in
    let e : read_palette w h bd cache list ≡ got p [] = rw (← append-nil list) (read_back w h bd cache p [] a) in
    rw (
      a.sides,
      a.depth,
      a.cache_length,
      le-leb (w * h) cells g,
      le-leb
          (max w h) lines k,
      e,
      zero_of_accepted w h bd cache p a,
      same_refl list,
    ) refl

-- a palette that is listed to these words is what they are judged as
pub judged_back : (w h bd : ℕ) (cache : List ℕ) (p : Palette) (ws : List ℕ) → relists w h bd cache p ws ≡ true
    → judge w h bd cache ws (read_palette w h bd cache ws) ≡ back p
unfolding judge relists
judged_back w h bd cache p ws f =
    let z : refusal w h bd (length cache) p ≡ 0 = eqb-true _ 0 (and_l (eqb (refusal w h bd (length cache) p) 0) _ f) in
    let l : call_list w h bd cache p ≡ ws = same_is _ ws (and_r (eqb (refusal w h bd (length cache) p) 0) _ f) in
    let list = call_list w h bd cache p in
    let e : read_palette w h bd cache list ≡ got p [] = rw (← append-nil list) (read_back w h bd cache p [] (accepted_of_zero w h bd cache p z)) in
    ap (λ (x : List ℕ). judge w h bd cache x (read_palette w h bd cache x)) (sym l) ∙ rw (e, z, same_refl list) refl

-- a palette that is listed to these words is what is read
pub listed_back : (w h bd : ℕ) (cache : List ℕ) (p : Palette) (cells lines : ℕ) (ws : List ℕ) → limits w h bd (length cache) cells lines ≡ 0
    → relists w h bd cache p ws ≡ true → reading w h bd cache cells lines ws ≡ back p
listed_back w h bd cache p cells lines ws passed f = passed_on w h bd cache cells lines ws passed ∙ judged_back w h bd cache p ws f

pub exactly_same : ReadExactlySame
exactly_same w h bd cache p q cells lines cells' lines' ws vs r s =
    let a = list_of_read w h bd cache p cells lines ws r in
    let b = list_of_read w h bd cache q cells' lines' vs s in
    let both : List ℕ → Got Palette = λ l. read_palette w h bd cache (l ++ []) in (
      λ e. got_same p q (sym (read_back w h bd cache p [] a.0) ∙ ap both (sym a.1 ∙ e ∙ b.1) ∙ read_back w h bd cache q [] b.0),
      λ e. a.1 ∙ ap (call_list w h bd cache) e ∙ sym b.1,
    )
  where
    got_same : (x y : Palette) → ◌≡◌ {A = Got Palette} (got x []) (got y []) → x ≡ y
    got_same x y e = cc
