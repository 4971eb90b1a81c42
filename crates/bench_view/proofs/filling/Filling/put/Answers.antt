use Rattle.std.proofs.Common.{◌≡◌, ◌+◌, List, ℕ, refl, ap, ◌∙◌, length}
use Rattle.bench_view.specs.Lines.{line_text}
use Rattle.bench_view.proofs.Room.{now_full, one_more}
use Rattle.bench_view.proofs.filling.Filling.put.Goals as goal

pub returns-then-not-has_room-clause-filled : goal.returns-then-not-has_room-clause-filled
returns-then-not-has_room-clause-filled c = λ front messages t is number channel there message.
    let made : c.put_line.new.text.items ≡ line_text c.args.signals.now t = rw c.clear.ensures.items at c.in_ok-put_line.ensures t number channel there message in
    let long : length c.as_slice-line.result.now ≡ length c.put_line.new.text.items = ap (λ (l : List ℕ). length l) c.as_slice-line.ensures.value in
    now_full front c.args.signals.now messages t c.args.self.now _ (length c.as_slice-line.result.now) is c.if-self.false (long ∙ ap (λ (l : List ℕ). length l) made) (c.has_room.ensures.none c.if-not-has_room.true) c.requires refl refl refl refl

pub returns-clause-filled : goal.returns-clause-filled
returns-clause-filled c = λ front messages t is number channel there message.
    let made : c.put_line.new.text.items ≡ line_text c.args.signals.now t = rw c.clear.ensures.items at c.in_ok-put_line.ensures t number channel there message in
    let long : length c.as_slice-line.result.now ≡ length c.put_line.new.text.items = ap (λ (l : List ℕ). length l) c.as_slice-line.ensures.value in
    one_more front c.args.signals.now messages t c.args.self.now _ c.put_line.new.text.items is c.if-self.false made (rw long at c.has_room.ensures.room c.if-not-has_room.false) c.requires
    (rw c.as_slice-line.ensures.value at c.in_ok-extend_from_slice.ensures.items) (ap (λ (n : ℕ). c.args.self.now.size + n) long) refl c.if-self.false
