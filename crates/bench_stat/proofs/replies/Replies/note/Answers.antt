use Rattle.std.proofs.Common.{refl}
use Rattle.ch11_layout.specs.Layouts.{commands_in, data_start, data_end, size_of}
use Rattle.bench_stat.specs.Replies.{word_before}
use Rattle.bench_stat.proofs.Following.{replies_more}
use Rattle.bench_stat.proofs.replies.Replies.note.Goals as goal

pub returns : goal.returns
returns c = λ history same.
    let m = c.args.view.now in
    rw (c.note_at-2.ensures, c.note_at.ensures, c.layout-layout.ensures, same)
    (replies_more m history (word_before m (data_end m) (size_of m)) (word_before m (commands_in m) (data_start m)) refl)
