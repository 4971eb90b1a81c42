use Rattle.std.proofs.Common.{◌≡◌, ◌+◌, ◌*◌, ◌++◌, ◌∷◌, [], sym, ◌∙◌, subst, set, arith}
use Rattle.std.specs.Prelude.{Some, None, nat_le, ◌||◌, slice_index_or, ℕ}
use Rattle.bench_check.specs.Filling.{AreFirsts, is_reached}
use Rattle.bench_check.proofs.Firsts.{at_none, none_more, no_words, no_terminal, one_more}
use Rattle.bench_check.proofs.filling.note.Goals as goal

pub returns-in_default : goal.returns-in_default
returns-in_default c = λ before so_far. none_more c.args.firsts.now before c.args.one.now (at_none c.args.one.now c.in_default.not-Terminal) so_far

pub returns-in_default-put_up_at : goal.returns-in_default-put_up_at
returns-in_default-put_up_at c = λ before so_far.
    let t = c.in-Terminal in
    none_more c.args.firsts.now before c.args.one.now (no_words c.args.one.now t.address t.action t.is (sym c.put_up_at.ensures.place ∙ c.in_default-put_up_at.is)) so_far

pub returns-then-from-lt-FIELD_VALUES : goal.returns-then-from-lt-FIELD_VALUES
returns-then-from-lt-FIELD_VALUES c = λ before so_far.
    let one = c.args.one.now in
    let firsts = c.args.firsts.now in
    let t = c.in-Terminal in
    let put = c.in-Some.sub in
    let place : c.pair-place.result ≡ 32 * t.address + put = c.pair-place.ensures in
    let least : (n : ℕ) → nat_le c.earlier.result n ≡ (is_reached (slice_index_or firsts (32 * t.address + put) None) n || nat_le one.number n) = subst (λ k. (n : ℕ) → nat_le c.earlier.result n ≡ (is_reached (slice_index_or firsts k None) n || nat_le one.number n)) place c.earlier.ensures in
    subst (λ k. AreFirsts (set firsts k (Some c.earlier.result)) (before ++ one ∷ [])) (sym place)
    (one_more firsts before one t.address t.action put c.earlier.result t.is (sym c.put_up_at.ensures.place ∙ c.in-Some.is) (omega (arith, c.from.ensures, c.if-from-lt-FIELD_VALUES.true)) (omega (arith, c.in-Some.ensures.range)) least so_far)

pub returns-else-from-lt-FIELD_VALUES : goal.returns-else-from-lt-FIELD_VALUES
returns-else-from-lt-FIELD_VALUES c = λ before so_far.
    let t = c.in-Terminal in
    none_more c.args.firsts.now before c.args.one.now (no_terminal c.args.one.now t.address t.action t.is (omega (arith, c.from.ensures, c.if-from-lt-FIELD_VALUES.false))) so_far
