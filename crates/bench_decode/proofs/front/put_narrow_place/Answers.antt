use Rattle.std.proofs.Common.{◌≡◌, ℕ, ◌+◌, ◌≤◌, ◌∷◌, List, length, take, refl, sym, ap, ◌∙◌, arith}
use Rattle.std.specs.Prelude.{decimal}
use Rattle.std.proofs.lemmas.Fmt.{length-decimal-le}
use Rattle.std.proofs.lemmas.List.{take_all}
use Rattle.bench_decode.specs.Columns.{right}
use Rattle.bench_decode.specs.Times.{decimals_text, seconds_of, ticks_of}
use Rattle.bench_decode.specs.MessageText.{place_by, time_parts}
use Rattle.bench_decode.proofs.DigitLemmas.{length_digits}
use Rattle.bench_decode.proofs.Narrow.{narrow-is, right-length, right-more}
use Rattle.bench_decode.proofs.front.put_narrow_place.Goals as goal

pub returns-clause-put : goal.returns-clause-put
unfolding place_by time_parts
returns-clause-put c =
    let n = c.args.place.now.number in
    let s = seconds_of c.args.ticks in
    let t = ticks_of c.args.ticks in
    let ch = c.args.place.now.channel in
    let ic = c.args.place.now.in_channel in
    let few_n : length (decimal n) ≤ 7 = length-decimal-le 7 n (omega arith) (omega (arith, c.requires.number)) (omega (arith, c.requires.number)) in
    let few_s : length (decimal s) ≤ 5 = length-decimal-le 5 s (omega arith) (omega (arith, c.requires.time)) (omega (arith, c.requires.time)) in
    let few_ch : length (decimal ch) ≤ 7 = length-decimal-le 7 ch (omega arith) (omega arith) (omega arith) in
    let few_ic : length (decimal ic) ≤ 7 = length-decimal-le 7 ic (omega arith) (omega (arith, c.requires.in_channel)) (omega (arith, c.requires.in_channel)) in
    let first : take 7 c.in_columns.result ≡ right 7 (decimal n) = c.in_columns.ensures.text in
    let second : take 6 c.in_columns-2.result ≡ 32 ∷ right 5 (decimal s) = (rw c.of-time.ensures.seconds at c.in_columns-2.ensures.text) ∙ right-more 5 (decimal s) few_s in
    let third : c.in_columns-3.result ≡ 32 ∷ right 7 (decimal ch) = sym (take_all 8 c.in_columns-3.result (omega (arith, c.in_columns-3.ensures.many))) ∙ (rw c.from.ensures at c.in_columns-3.ensures.text) ∙ right-more 7 (decimal ch) few_ch in
    let fourth : c.in_columns-4.result ≡ 32 ∷ right 7 (decimal ic) = sym (take_all 8 c.in_columns-4.result (omega (arith, c.in_columns-4.ensures.many))) ∙ c.in_columns-4.ensures.text ∙ right-more 7 (decimal ic) few_ic in
    let decimals : c.decimals_of.result ≡ decimals_text t = rw c.of-time.ensures.ticks at c.decimals_of.ensures in
    rw (c.put_front.ensures.put, first, second, decimals, third, fourth)
    (narrow-is c.args.line.now (right 7 (decimal n)) (right 5 (decimal s)) (decimals_text t) (right 7 (decimal ch)) (right 7 (decimal ic)) c.args.letter c.requires.begun (right-length 7 (decimal n) few_n) (right-length 5 (decimal s) few_s) (omega (arith, length_digits 7 t)) (right-length 7 (decimal ch) few_ch) (right-length 7 (decimal ic) few_ic))
