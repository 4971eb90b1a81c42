-- Lines that a draft took in begin a report, and a line that it refuses begins none.
use Rattle.std.proofs.Common.{◌≡◌, ℕ, List, [], ◌∷◌, ◌++◌, refl, ap, arith, subst, sym, ◌∙◌, append-nil, append_assoc, All}
use Rattle.std.proofs.lemmas.Bool.Decides.{nat_tests}
use Rattle.std.specs.Prelude.{Bool, true, false, nat_lt, nat_le, Option, Some, None}
use Rattle.std.specs.List.{flat_map}
use Rattle.std.proofs.lemmas.Grind.{flat_map-append}
use Rattle.std.proofs.lemmas.List.Elements.{All-append, All-cons, All-nil, All-head, All-tail}
use Rattle.bc_machine.specs.declared.placed.Placed.{Placed}
use Rattle.bench_report.specs.Reports.{ChannelPart, RunReport}
use Rattle.bench_report.specs.Faults.{IsInOrder, Begin, AreNoReport}
use Rattle.bench_report.specs.Spelling.{part_lines, report_lines}
use Rattle.bench_report.specs.Drafts.{Draft, no_lines, with_line, option_bind, finished, with_refused, with_placed, in_body, last_number, numbers}
use Rattle.bench_report.specs.declared.lines.ReportLine.{ReportLine}
use Rattle.bench_report.specs.declared.lines.ReportLine.TheVariants as line
use Rattle.bench_report.specs.declared.stages.Stage.{Stage}
use Rattle.bench_report.specs.declared.stages.Stage.TheVariants as stage
use Rattle.bench_report.proofs.ListLemmas.{rises-push, never_falls-push}
use Rattle.bench_report.proofs.Drafted.{draft_lines, next_lines}
use Rattle.bench_report.proofs.Taken.{with_all, all-append, all_lines}

-- a channel that was named, and of which no more is known
abbrev named : ℕ → ChannelPart
named channel = record { channel = channel; made = 0; refused = []; placed = [] }

-- the channels of a draft, with the one that is under way
abbrev parts_at : List ChannelPart → Stage → List ChannelPart
parts_at done stage.Begin = done
parts_at done (stage.Named channel) = done ++ named channel ∷ []
parts_at done (stage.Body p) = done ++ p ∷ []
parts_at done (stage.End packets) = done

abbrev lines_then : Option Draft → List ReportLine
lines_then None = []
lines_then (Some d) = draft_lines d

abbrev AreInOrder : Draft → Type 0
AreInOrder d = All IsInOrder (parts_at d.done d.stage)

abbrev AreInOrderThen : Option Draft → Type 0
AreInOrderThen None = Unit {0}
AreInOrderThen (Some d) = AreInOrder d

-- all of a list are all of its front
front : (xs ys : List ChannelPart) → All IsInOrder (xs ++ ys) → All IsInOrder xs
front [] ys all = All-nil IsInOrder
front (x ∷ xs) ys all = All-cons IsInOrder x xs (All-head IsInOrder x (xs ++ ys) all) (front xs ys (All-tail IsInOrder x (xs ++ ys) all))

one_more : (done : List ChannelPart) (p : ChannelPart) → All IsInOrder done → IsInOrder p → All IsInOrder (done ++ p ∷ [])
one_more done p all is = All-append IsInOrder done (p ∷ []) all (All-cons IsInOrder p [] is (All-nil IsInOrder))

last_of : (done : List ChannelPart) (p : ChannelPart) → All IsInOrder (done ++ p ∷ []) → IsInOrder p
last_of [] p all = All-head IsInOrder p [] all
last_of (x ∷ done) p all = last_of done p (All-tail IsInOrder x (done ++ p ∷ []) all)

unmade : (channel made : ℕ) → IsInOrder (record { channel = channel; made = made; refused = []; placed = [] })
unmade channel made = record { refused = tt; placed = tt }

refused_order : (done : List ChannelPart) (p : ChannelPart) (n : ℕ) → All IsInOrder (done ++ p ∷ []) → AreInOrderThen (in_body done (with_refused p n))
refused_order done p n all = go p.placed refl (nat_lt (last_number 0 p.refused) n) refl (nat_le n p.made) refl
  where
    go : (placed : List Placed) → p.placed ≡ placed → (above : Bool) → nat_lt (last_number 0 p.refused) n ≡ above → (within : Bool) → nat_le n p.made ≡ within
        → AreInOrderThen (in_body done (with_refused p n))
    go [] none true above true within =
        let is = last_of done p all in
        let rises = rises-push 0 p.made p.refused n is.refused (grind (arith, nat_tests, above)) (grind (arith, nat_tests, within)) in
        rw (none, above, within) (one_more done (record { channel = p.channel; made = p.made; refused = p.refused ++ n ∷ []; placed = [] }) (front done (p ∷ []) all) (record { refused = rises; placed = tt }))
    go [] none true above false within = rw (none, above, within) tt
    go [] none false above within w = rw (none, above) tt
    go (x ∷ placed) some above a within w = rw some tt

placed_order : (done : List ChannelPart) (p : ChannelPart) (x : Placed) → All IsInOrder (done ++ p ∷ []) → AreInOrderThen (in_body done (with_placed p x))
placed_order done p x all = go (nat_le (last_number 0 (numbers p.placed)) x.number) refl
  where
    go : (behind : Bool) → nat_le (last_number 0 (numbers p.placed)) x.number ≡ behind → AreInOrderThen (in_body done (with_placed p x))
    go true behind =
        let is = last_of done p all in
        let order = never_falls-push 0 p.placed x is.placed (grind (arith, nat_tests, behind)) in
        rw behind (one_more done (record { channel = p.channel; made = p.made; refused = p.refused; placed = p.placed ++ x ∷ [] }) (front done (p ∷ []) all) (record { refused = is.refused; placed = order }))
    go false behind = rw behind tt

-- one more line keeps the order
order_step : (done : List ChannelPart) (at : Stage) (l : ReportLine) → All IsInOrder (parts_at done at) → AreInOrderThen (with_line (record { done = done; stage = at }) l)
order_step done stage.Begin (line.Channel n) all = one_more done (named n) all (unmade n 0)
order_step done (stage.Named c) (line.Channel n) all = tt
order_step done (stage.Body p) (line.Channel n) all = one_more (done ++ p ∷ []) (named n) all (unmade n 0)
order_step done (stage.End k) (line.Channel n) all = tt
order_step done stage.Begin (line.Packets n) all = all
order_step done (stage.Named c) (line.Packets n) all = tt
order_step done (stage.Body p) (line.Packets n) all = all
order_step done (stage.End k) (line.Packets n) all = tt
order_step done stage.Begin (line.Made n) all = tt
order_step done (stage.Named c) (line.Made n) all =
    one_more done (record { channel = c; made = n; refused = []; placed = [] }) (front done (named c ∷ []) all) (unmade c n)
order_step done (stage.Body p) (line.Made n) all = tt
order_step done (stage.End k) (line.Made n) all = tt
order_step done stage.Begin (line.Refused n) all = tt
order_step done (stage.Named c) (line.Refused n) all = tt
order_step done (stage.Body p) (line.Refused n) all = refused_order done p n all
order_step done (stage.End k) (line.Refused n) all = tt
order_step done stage.Begin (line.Placed x) all = tt
order_step done (stage.Named c) (line.Placed x) all = tt
order_step done (stage.Body p) (line.Placed x) all = placed_order done p x all
order_step done (stage.End k) (line.Placed x) all = tt

-- a draft after lines: in order, with these lines behind those that it had
record IsAfter (ls : List ReportLine) (d e : Draft) : Type 0 where
  in_order : AreInOrder e
  lines : draft_lines e ≡ draft_lines d ++ ls

after : (ls : List ReportLine) (d e : Draft) → with_all ls d ≡ Some e → AreInOrder d → IsAfter ls d e
after [] d e is all =
    record {
      in_order = subst (λ (m : Option Draft). AreInOrderThen m) is all;
      lines = ap lines_then (sym is) ∙ sym (append-nil (draft_lines d));
    }
after (l ∷ ls) d e is all = go (with_line d l) refl is (order_step d.done d.stage l all) (after ls)
  where
    go : (m : Option Draft) → with_line d l ≡ m → option_bind m (with_all ls) ≡ Some e → AreInOrderThen m
        → ((f e : Draft) → with_all ls f ≡ Some e → AreInOrder f → IsAfter ls f e) → IsAfter (l ∷ ls) d e
    go None step is order rest = cc
    go (Some f) step is order rest =
        let more = rest f e is order in
        record {
          in_order = more.in_order;
          lines = more.lines ∙ (rw (next_lines d f l step) (append_assoc (draft_lines d) (l ∷ []) ls));
        }

-- the lines of a draft in order begin a report
begins : (done : List ChannelPart) (at : Stage) → All IsInOrder (parts_at done at) → Begin (draft_lines (record { done = done; stage = at }))
begins done stage.Begin all =
    record {
      report = record { channels = done; packets = 0 };
      in_order = all;
      rest = line.Packets 0 ∷ [];
      are = rw (append-nil (flat_map part_lines done)) refl;
    }
begins done (stage.Named c) all =
    record {
      report = record { channels = done ++ named c ∷ []; packets = 0 };
      in_order = all;
      rest = line.Made 0 ∷ line.Packets 0 ∷ [];
      are =
          rw (
            flat_map-append part_lines done (named c ∷ []),
            append_assoc (flat_map part_lines done) (line.Channel c ∷ line.Made 0 ∷ []) (line.Packets 0 ∷ []),
            append_assoc (flat_map part_lines done) (line.Channel c ∷ []) (line.Made 0 ∷ line.Packets 0 ∷ []),
          ) refl;
    }
begins done (stage.Body p) all =
    record {
      report = record { channels = done ++ p ∷ []; packets = 0 };
      in_order = all;
      rest = line.Packets 0 ∷ [];
      are = rw (flat_map-append part_lines done (p ∷ []), append-nil (part_lines p)) refl;
    }
begins done (stage.End k) all =
    record {
      report = record { channels = done; packets = k };
      in_order = all;
      rest = [];
      are = rw (append-nil (flat_map part_lines done ++ line.Packets k ∷ [])) refl;
    }

-- none is not some
apart : (X : Type 0) (x : X) (m : Option X) → m ≡ None → m ≡ Some x → ⊥
apart X x m none some = let wrong : None ≡ Some x = sym none ∙ some in cc

-- lines that none but a draft took in begin a report
pub lines_begin : (ls : List ReportLine) (d : Draft) → with_all ls no_lines ≡ Some d → Begin ls
lines_begin ls d taken =
    let is = after ls no_lines d taken (All-nil IsInOrder) in
    let lines : draft_lines d ≡ ls = is.lines in
    rw lines at (begins d.done d.stage is.in_order)

-- a line that the draft of lines refuses has no place behind them
pub begins_not : (ls : List ReportLine) (d : Draft) (l : ReportLine) → with_all ls no_lines ≡ Some d → with_line d l ≡ None → Begin (ls ++ l ∷ []) → ⊥
begins_not ls d l taken refused begin =
    let lines : report_lines begin.report ≡ ls ++ (l ∷ begin.rest) = begin.are ∙ append_assoc ls (l ∷ []) begin.rest in
    let some = all_lines begin.report begin.in_order in
    let none : with_all (report_lines begin.report) no_lines ≡ None = rw (lines, all-append ls (l ∷ begin.rest) no_lines d taken, refused) refl in
    apart Draft (record { done = begin.report.channels; stage = stage.End begin.report.packets }) (with_all (report_lines begin.report) no_lines) none some

-- lines whose draft is not finished are no report
pub no_report : (ls : List ReportLine) (d : Draft) → with_all ls no_lines ≡ Some d → finished d ≡ None → AreNoReport ls
no_report ls d taken none = λ r in_order is.
    let whole : with_all ls no_lines ≡ Some (record { done = r.channels; stage = stage.End r.packets }) = rw is at (all_lines r in_order) in
    let same : Some d ≡ Some (record { done = r.channels; stage = stage.End r.packets }) = sym taken ∙ whole in
    let report : finished d ≡ Some (record { channels = r.channels; packets = r.packets }) = ap (λ (m : Option Draft). option_bind m finished) same in
    apart RunReport (record { channels = r.channels; packets = r.packets }) (finished d) none report
