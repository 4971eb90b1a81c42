-- A complete file is completed to its own bytes.
use Rattle.std.proofs.Common.{◌≡◌, ℕ, ◌+◌, ◌<◌, Bool, true, eqb, List, [], ◌∷◌, ◌++◌, length, take, drop, get_or, Option, None, Some, option_map, Ok, refl, sym, ap, subst, ◌∙◌}
use Rattle.std.proofs.lemmas.List.{drop-drop}
use Rattle.std.proofs.Math.Seq.{take-append_seam, drop-append_seam}
use Rattle.ch11_reader.specs.Recording.{Found, packets_in}
use Rattle.bench_complete.specs.declared.additions.Additions.{Additions}
use Rattle.bench_complete.specs.declared.extent.Extent.{Extent}
use Rattle.bench_complete.specs.Pieces.{Piece, bytes_of, kept_packets, leading, behind_leading}
use Rattle.bench_complete.specs.Merging.{IsMergeOrder}
use Rattle.bench_complete.specs.TimePackets.{times_in}
use Rattle.bench_complete.specs.Complete.{IsComplete, Plan, plan_of, plan_for, extent_of, front_of, times_between}
use Rattle.bench_complete.specs.Judging.{judged_additions}
use Rattle.bench_complete.specs.Laws.{AreOptions, StaysComplete}
use Rattle.bench_complete.proofs.Unique.{unique}
use Rattle.bench_complete.proofs.Channels.{all_append}
use Rattle.bench_complete.proofs.Front.{AreSetups, leading_setups, leading_all, behind_setups, order_behind}
use Rattle.bench_complete.proofs.Again.{IsWhole, AreWhole, found_from}
use Rattle.bench_complete.proofs.Readable as readable

-- packets that were written are those that go over
kept_again : (file : List ℕ) (offset : ℕ) (ps : List Piece) → drop offset file ≡ bytes_of ps → AreWhole ps → kept_packets file (found_from offset ps) ≡ ps
kept_again file offset [] is all = refl
kept_again file offset (p ∷ ps) is all =
    let own : take p.header.packet_length (drop offset file) ≡ p.bytes =
    ap (λ (n : ℕ). take n (drop offset file)) (sym all.0.size) ∙ ap (take (length p.bytes)) is ∙ take-append_seam p.bytes (bytes_of ps) in
    let later : drop (offset + length p.bytes) file ≡ bytes_of ps =
    sym (drop-drop (length p.bytes) offset file) ∙ ap (drop (length p.bytes)) is ∙ drop-append_seam p.bytes (bytes_of ps) in
    rw (all.0.over)
    (ap (λ (xs : List ℕ). record { header = p.header; bytes = xs } ∷ kept_packets file (found_from (offset + length p.bytes) ps)) own
    ∙ ap (λ (l : List Piece). p ∷ l) (kept_again file (offset + length p.bytes) ps later all.1))

front_setups : (setup : Option (List ℕ)) (version counter : ℕ) → AreSetups (front_of setup version counter)
front_setups None version counter = tt
front_setups (Some text) version counter = (refl, tt)

-- ---- where nothing is added

no_times : (none : Additions) (x : Option Extent) → times_in (times_between none None x) ≡ []
no_times none None = refl
no_times none (Some e) = refl

nothing_judged : (bytes : List ℕ) (qs : List Found) (none : Additions) → none.setup ≡ None → none.start ≡ None → judged_additions bytes (Ok qs) none ≡ Ok qs
nothing_judged bytes qs none setup start = rw (setup, start) refl

nothing_planned : (bytes : List ℕ) (qs : List Found) (none : Additions) (xs : List Piece) → none.setup ≡ None → none.start ≡ None → kept_packets bytes qs ≡ xs
    → plan_for bytes qs none ≡ record { front = leading xs; parts = behind_leading xs }
nothing_planned bytes qs none xs setup start is =
    rw (setup, start)
    (ap (λ (ts : List Piece). plan_of None none.version ts (kept_packets bytes qs)) (no_times none (extent_of (kept_packets bytes qs)))
    ∙ ap (λ (l : List Piece). plan_of None none.version [] l) is)

-- packets that stand behind setup records in the order of a merge are merged to themselves
same_file : (xs front merged : List Piece) (again : List ℕ) → xs ≡ front ++ merged → AreSetups front → IsMergeOrder merged → IsComplete (record { front = leading xs; parts = behind_leading xs }) again → again ≡ bytes_of xs
same_file xs front merged again is setups order c =
    let rest : behind_leading xs ≡ behind_leading merged = ap behind_leading is ∙ behind_setups front merged setups in
    let own : IsMergeOrder (behind_leading xs) = subst IsMergeOrder (sym rest) (order_behind merged order) in
    let one : c.merged ≡ behind_leading xs = unique c.merged (behind_leading xs) c.merge.order own c.merge.channels in
    c.is ∙ ap (λ (l : List Piece). bytes_of (leading xs ++ l)) one ∙ ap bytes_of (leading_all xs)

pub stays_complete : StaysComplete
stays_complete file bytes a none ps small_bytes options read sound complete setup start =
    let xs : List Piece = readable.whole_file file bytes a ps small_bytes options read sound complete in
    let whole : AreWhole xs = readable.all_whole file bytes a ps small_bytes options read sound complete in
    let back : kept_packets bytes (found_from 0 xs) ≡ xs = kept_again bytes 0 xs complete.is whole in (
      found_from 0 xs,
      readable.file_read file bytes a ps small_bytes options read sound complete,
      nothing_judged bytes (found_from 0 xs) none setup start,
      λ again c. same_file xs (plan_for file ps a).front complete.merged again refl
          (all_append (λ (p : Piece). eqb p.header.kind 1 ≡ true) _ _ (front_setups _ _ _) (leading_setups (kept_packets file ps))) complete.merge.order
          (subst (λ (plan : Plan). IsComplete plan again) (nothing_planned bytes (found_from 0 xs) none xs setup start back) c) ∙ sym complete.is,
    )
