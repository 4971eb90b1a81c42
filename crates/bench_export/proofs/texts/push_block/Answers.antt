use Rattle.std.specs.Prelude.{codes}
use Rattle.bench_export.specs.Rows.{name_if}
use Rattle.bench_export.proofs.Written.{eight_parts}
use Rattle.bench_export.proofs.texts.push_block.Goals as goal

pub returns : goal.returns
returns c =
    let b = c.args.block in
    rw (c.in_ok-push.ensures, c.behind_first.ensures, c.as_slice.ensures.value, c.in_ok-put_name-8.ensures, c.in_ok-put_name-7.ensures, c.in_ok-put_name-6.ensures, c.in_ok-put_name-5.ensures, c.in_ok-put_name-4.ensures, c.in_ok-put_name-3.ensures, c.in_ok-put_name-2.ensures, c.in_ok-put_name.ensures, c.clear.ensures.items)
    (eight_parts c.args.row.now (name_if b 13 (codes "line_b")) (name_if b 12 (codes "message_error")) (name_if b 11 (codes "terminal_to_terminal")) (name_if b 10 (codes "format_error"))
    (name_if b 9 (codes "response_timeout")) (name_if b 5 (codes "word_count_error")) (name_if b 4 (codes "sync_type_error")) (name_if b 3 (codes "invalid_word_error")))
