-- Lemmas on the columns of a line.
use Rattle.std.proofs.Common.{◌≡◌, ℕ, ◌<◌, ◌≤◌, ◌-◌, List, ◌++◌, length, take, refl, arith, replicate, length-append}
use Rattle.std.proofs.lemmas.List.{take_all, length-take, length-replicate}
use Rattle.fixed_form.specs.Cards.{front, filled}

pub front-short : (line : List ℕ) → length line < 72 → front line ≡ line
unfolding front
front-short line h = take_all 72 line (omega arith)

pub front-long : (line : List ℕ) → front line ≡ take 72 line
unfolding front
front-long line = refl

pub length-front : (line : List ℕ) → length (front line) ≤ 72
unfolding front
length-front line = omega (arith, length-take {A = ℕ} 72 line)

pub ruleset front_steps = (front-short, front-long)

pub filled-is : (front : List ℕ) → front ++ replicate (72 - length front) 32 ≡ filled front
unfolding filled
filled-is front = refl

pub length-filled : (c : List ℕ) → length c ≤ 72 → length (filled c) ≡ 72
unfolding filled
length-filled c h = omega (arith, length-append c (replicate (72 - length c) 32), length-replicate {A = ℕ} (72 - length c) 32)

pub ruleset card_steps = (length-front, filled-is, length-filled)
