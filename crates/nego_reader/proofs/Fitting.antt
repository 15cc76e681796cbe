-- Words that fit are a list of which each part does.
use Rattle.std.proofs.Common.{ℕ, List, All, take, drop}
use Rattle.std.proofs.lemmas.List.Elements.{All-take, All-drop}
use Rattle.nego_base.specs.declared.line.Word.{Word}
use Rattle.nego_base.specs.LineAnswers.{FitsWord}

pub fit_front : (n : ℕ) (words : List Word) → All FitsWord words → All FitsWord (take n words)
fit_front n words h = All-take FitsWord n words h

pub fit_behind : (n : ℕ) (words : List Word) → All FitsWord words → All FitsWord (drop n words)
fit_behind n words h = All-drop FitsWord n words h
