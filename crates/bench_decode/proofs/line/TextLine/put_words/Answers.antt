use Rattle.std.proofs.Common.{◌≡◌, ◌⊎◌, inl, inr, ap, length, arith, take, drop, sym, ◌++◌}
use Rattle.std.proofs.lemmas.List.{take-append-drop}
use Rattle.bench_dump.specs.DumpText.{bus_words}
use Rattle.bench_decode.proofs.Wording.{none-left, putting-all, putting-more, putting-none, words-split, min-is}
use Rattle.bench_decode.proofs.line.TextLine.put_words.Goals as goal

pub pieces-init : goal.pieces-init
pieces-init g c = putting-none _ _ _

pub pieces-preserved : goal.pieces-preserved
pieces-preserved g c =
    let parts : c.pieces.rest.now ≡ c.split_at.result.0.now ++ c.split_at.result.1.now = rw (c.split_at.ensures.front, c.split_at.ensures.back) (sym (take-append-drop c.piece_of.result c.pieces.rest.now)) in
    putting-more _ _ _ _ _ _ _ _ _ _ _ c.pieces.invariant c.in_ok-hand_on.ensures.put c.put_piece.ensures.put (words-split c.piece_of.result _ _ _ parts c.split_at.ensures.front_len (min-is _ c.piece_of.result c.piece_of.ensures))
    (omega (arith, c.in_ok-hand_on.ensures.room, c.put_piece.ensures.few, c.split_at.ensures.front_len, c.piece_of.ensures))

pub returns-clause-put : goal.returns-clause-put
returns-clause-put g c = putting-all _ _ _ _ _ _ c.pieces.invariant (ap bus_words (none-left _ (omega (arith, c.pieces-test.false))))
