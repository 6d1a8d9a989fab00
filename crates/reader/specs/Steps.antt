-- What a step answers: a value and the words left, or why there is none.
use Rattle.std.specs.Prelude.{List, ℕ, Result, Ok, Err, drop}
use Rattle.refusals.specs.declared.Refusal.{Refusal}
use Rattle.refusals.specs.Numbers.{number_of}
use Rattle.reader.specs.Reader.{Got, got, fault}
use Rattle.reader.specs.declared.Reading.{Reading}

-- the words that are not read yet
abbrev pub left : Reading → List ℕ
left r = drop r.at r.words.now

-- what the value stands for, and the words left; or the number of the refusal
abbrev pub told : {A B : Type 0} → (B → A) → Result B Refusal → List ℕ → Got A
told f (Ok b) ws = got (f b) ws
told f (Err e) ws = fault (number_of e)
