use Rattle.std.proofs.Common.{◌≡◌, ℕ, suc, ◌+◌, ◌-◌, ◌*◌, ◌<◌, ◌∙◌, List, drop, arith}
use Rattle.ch11_header.specs.HeaderBytes.{word_sum, number_at}
use Rattle.ch11_header.proofs.Again.{one_word, number_in_rest}
use Rattle.ch11_header.proofs.header.sum_of_words.Goals as goal

step : (sum word next : ℕ) (bytes : List ℕ) → word < 11 → next ≡ number_at (2 * word) 2 bytes → sum + word_sum (11 - word) (drop (2 * word) bytes) ≡ word_sum 11 bytes
    → sum + next + word_sum (11 - (word + 1)) (drop (2 * (word + 1)) bytes) ≡ word_sum 11 bytes
step sum word next bytes lt read so_far =
    let k : 11 - word ≡ suc (11 - (word + 1)) = omega arith in
    let place : 2 * (word + 1) ≡ 2 * word + 2 = omega arith in
    let one = one_word (11 - (word + 1)) (2 * word) bytes in
    let whole : sum + word_sum (suc (11 - (word + 1))) (drop (2 * word) bytes) ≡ word_sum 11 bytes = rw (← k) so_far in
    rw place (omega (arith, one, whole, read))

pub loop-word-preserved : goal.loop-word-preserved
loop-word-preserved c = (step c.loop-word.sum c.loop-word.word c.read_u16.result c.args.bytes.now c.loop-word-test.true (c.read_u16.ensures ∙ number_in_rest (2 * c.loop-word.word) 2 c.args.bytes.now) c.loop-word.invariant.0, omega arith)
