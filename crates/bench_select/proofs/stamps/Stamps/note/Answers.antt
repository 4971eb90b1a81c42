use Rattle.std.proofs.Common.{◌≡◌, ap, sym, ◌∙◌}
use Rattle.ch11_header.specs.declared.header.Header.{Header}
use Rattle.ch11_layout.specs.Stamps.{kind_of}
use Rattle.bench_select.specs.Stamps.{first_ticks, has_unknown, first_stamp}
use Rattle.bench_select.proofs.Stamping.{origins_more, unknown_marked}
use Rattle.bench_select.proofs.stamps.Stamps.note.Goals as goal

pub returns : goal.returns
returns c = λ ps q are header messages.
    let old = c.args.self.now in
    let first : c.first_stamp-first.result ≡ first_stamp q.messages = c.first_stamp-first.ensures ∙ ap first_stamp (sym messages) in
    let kind : c.of-kind.result ≡ kind_of q.header = c.of-kind.ensures ∙ ap kind_of (sym header) in
    let ticks : c.ticks_of_day.result ≡ first_ticks (kind_of q.header) q.messages = rw (← first, ← kind) c.ticks_of_day.ensures in
    let unknown : c.is_unknown.result ≡ has_unknown (kind_of q.header) q.messages = rw (← first, ← kind) c.is_unknown.ensures in
    let channel : c.args.header.now.channel ≡ q.header.channel = ap (λ (h : Header). h.channel) (sym header) in
    record {
      origins = origins_more ps q c.args.header.now.channel c.ticks_of_day.result old.origins.items _ channel ticks are.origins c.in_ok-begin_at.ensures;
      unknown = unknown_marked ps q c.args.header.now.channel c.is_unknown.result old.unknown.items _ channel unknown are.unknown c.in_ok-mark_if.ensures;
    }
