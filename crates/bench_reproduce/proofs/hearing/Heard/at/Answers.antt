use Rattle.std.proofs.Common.{ℕ, ◌+◌, ◌≤◌, ◌<◌, List, length, slice_range, ap, ap₂, arith}
use Rattle.std.proofs.lemmas.List.{length-map}
use Rattle.ch11_layout.specs.Stamps.{Recorded}
use Rattle.bench_reproduce.specs.Hearing.{message_in}
use Rattle.bench_reproduce.proofs.Inside.{inside_at, message_at}
use Rattle.bench_reproduce.proofs.hearing.Heard.at.Goals as goal

there : (c : goal.After-deref) → c.args.place < length c.self.inside.heads.items
there c = omega (arith, c.requires, length-map c.self.inside.heads.items (message_in c.self.inside.words.items), ap (λ (ms : List Recorded). length ms) c.self.view_is)

pub slice_bounds-result-end : goal.slice_bounds-result-end
slice_bounds-result-end c =
    let h = c.index-head.result.now in
    let inside : h.start + h.size ≤ length c.self.inside.words.items = inside_at c.self.inside.words.items c.self.inside.heads.items c.args.place h c.self.invariant (there c) c.index-head.ensures in
    omega (arith, inside, c.from.ensures, ap (λ (bytes : List ℕ). length bytes) c.deref.ensures.value)

pub returns : goal.returns
returns c =
    let h = c.index-head.result.now in
    let less : c.args.place < length c.self.inside.heads.items =
    omega (arith, c.requires, length-map c.self.inside.heads.items (message_in c.self.inside.words.items), ap (λ (ms : List Recorded). length ms) c.self.view_is) in
    message_at c.self.inside.words.items (slice_range c.deref.result.now h.start (h.start + c.from.result)) c.self.inside.heads.items c.args.self.now c.args.place h c.self.view_is less c.index-head.ensures
    (ap₂ (λ (bytes : List ℕ) (size : ℕ). slice_range bytes h.start (h.start + size)) c.deref.ensures.value c.from.ensures)
