use Rattle.std.proofs.Common.{◌≡◌, refl, ◌∙◌, ap, sym, subst, ◌+◌, ◌*◌, ◌%◌, [], ◌∷◌, ◌++◌, take}
use Rattle.std.proofs.lemmas.List.{take_more}
use Rattle.replaying.specs.Hash.{hashed, Words}
use Rattle.replaying.proofs.Hashes.{hashed_more, words_more}
use Rattle.replaying.proofs.Hash.with_all.Goals as goal

pub loop-word-init : goal.loop-word-init
unfolding hashed Words
loop-word-init g c = ([], tt, refl)

pub loop-word-preserved : goal.loop-word-preserved
loop-word-preserved g c =
    let l = c.loop-word in
    let xs = c.args.words.now in
    let x = c.word-item.result in
    let w = c.into.result in
    let ws = l.invariant.0 in
    let R = g.T.Into.converts in
    let front : take (l.word-index + 1) xs ≡ take l.word-index xs ++ x ∷ []
    = take_more xs l.word-index x c.loop-word-test.true ∙ ap (λ y. take l.word-index xs ++ y ∷ []) (sym c.word-item.is) in (
      ws ++ w ∷ [],
      subst (λ ys. Words R ys (ws ++ w ∷ [])) (sym front) (words_more R (take l.word-index xs) ws x w l.invariant.1 c.into.ensures),
      c.with-hash.ensures ∙ ap (λ h. (h * 65599 + w) % 4294967291) l.invariant.2 ∙ sym (hashed_more c.args.self.value ws w),
    )
