use Rattle.std.proofs.Common.{◌≡◌, ◌≢◌, ◌+◌, ◌<◌, ◌≤◌, List, [], ◌∷◌, ◌++◌, length, get_or, drop, ap, sym, ◌∙◌, arith, append-nil, append_assoc}
use Rattle.std.proofs.lemmas.List.{get_or_default, length-append}
use Rattle.std.specs.List.{zip}
use Rattle.mil_line.specs.declared.faults.Fault.{Fault}
use Rattle.mil_line.specs.Plans.{faults_of}
use Rattle.mil_line.proofs.Beside.{first_place, next_place, no_more}
use Rattle.mil_line.proofs.rising.faults_at.Goals as goal

pub loop-place-init : goal.loop-place-init
loop-place-init c =
    let ns = c.args.numbers.now in
    let fs = c.args.faults.now in
    let first = c.count_below-place.result in
    ap (λ (xs : List Fault). xs ++ faults_of c.args.number (drop first (zip ns fs))) c.new-found.ensures
    ∙ first_place ns fs c.args.number first c.requires.beside c.count_below-place.ensures.below

pub returns-then-numbers-place : goal.returns-then-numbers-place
returns-then-numbers-place c =
    let ns = c.args.numbers.now in
    let fs = c.args.faults.now in
    let n = c.args.number in
    let i = c.loop-place.place in
    let found = c.loop-place.found.items in
    let within : i < length ns = c.loop-place-test.true in
    let least : n ≤ get_or ns i n = c.count_below-place.ensures.others i n c.loop-place.auto.place within in
    let same : get_or ns i n ≡ get_or ns i 0 = get_or_default ns i n 0 within in
    let other : get_or ns i 0 ≢ n = c.if-numbers-place.true in
    let none : faults_of n (drop i (zip ns fs)) ≡ [] = no_more ns fs n i c.requires.beside c.requires.rising (λ _. omega (arith, least, same, other)) in
    sym (append-nil found) ∙ ap (λ (xs : List Fault). found ++ xs) (sym none) ∙ c.loop-place.invariant

pub push-requires : goal.push-requires
push-requires c =
    let ns = c.args.numbers.now in
    let fs = c.args.faults.now in
    let n = c.args.number in
    let i = c.loop-place.place in
    let found = c.loop-place.found.items in
    let within : i < length ns = c.loop-place-test.true in
    let is : get_or ns i n ≡ n = get_or_default ns i n 0 within ∙ c.if-numbers-place.false in
    let next = next_place ns fs n i c.index-faults-place.result c.requires.beside within is c.index-faults-place.is in
    let all = length-append found (faults_of n (drop i (zip ns fs))) in
    let less : length found < 4 = omega (arith, c.requires.few, ap length c.loop-place.invariant, all, ap length next) in
    (omega arith, less)

pub loop-place-preserved : goal.loop-place-preserved
loop-place-preserved c =
    let ns = c.args.numbers.now in
    let fs = c.args.faults.now in
    let n = c.args.number in
    let i = c.loop-place.place in
    let found = c.loop-place.found.items in
    let one = c.index-faults-place.result in
    let rest = faults_of n (drop (i + 1) (zip ns fs)) in
    let within : i < length ns = c.loop-place-test.true in
    let is : get_or ns i n ≡ n = get_or_default ns i n 0 within ∙ c.if-numbers-place.false in
    let next = next_place ns fs n i one c.requires.beside within is c.index-faults-place.is in
    ap (λ (xs : List Fault). xs ++ rest) c.push.ensures.items
    ∙ append_assoc found (one ∷ []) rest
    ∙ ap (λ (xs : List Fault). found ++ xs) (sym next)
    ∙ c.loop-place.invariant

pub returns : goal.returns
returns c =
    let ns = c.args.numbers.now in
    let fs = c.args.faults.now in
    let n = c.args.number in
    let i = c.loop-place.place in
    let found = c.loop-place.found.items in
    let past : length ns ≤ i = c.loop-place-test.false in
    let none : faults_of n (drop i (zip ns fs)) ≡ [] = no_more ns fs n i c.requires.beside c.requires.rising (λ within. omega (arith, past, within)) in
    sym (append-nil found) ∙ ap (λ (xs : List Fault). found ++ xs) (sym none) ∙ c.loop-place.invariant
