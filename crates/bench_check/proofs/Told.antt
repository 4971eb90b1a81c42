-- What one step adds to what is told of a job.
use Rattle.std.proofs.Common.{◌≡◌, ◌<◌, ◌+◌, true, List, [], ◌∷◌, ◌++◌, refl, ap, sym, ◌∙◌, subst, append_assoc, append-nil, arith}
use Rattle.std.specs.Prelude.{Bool, false, Option, nat_lt, if◌then◌else◌}
use Rattle.std.specs.Io.KnownBytes.{Appends}
use Rattle.std.proofs.lemmas.Bool.{lt-ltb}
use Rattle.std.proofs.KnownBytes.{Appends-nil, Appends-trans}
use Rattle.text_lines.specs.Words.{Text}
use Rattle.bc_machine.specs.Running.{MachineState, HasEnded, stepped}
use Rattle.job_file.specs.Jobs.{JobState}
use Rattle.bench_check.specs.FrameLines.{frame_line_at}
use Rattle.bench_check.specs.Listing.{said_at, listing, behind, HasTold, IsTold}
use Rattle.bench_check.specs.Overruns.{beginning_of}
use Rattle.bench_check.proofs.Overruns.{line_at_none}

one_told : (m : MachineState) (ts : List Text) (t : Text) → listing m (ts ++ t ∷ []) ≡ listing m ts ++ (frame_line_at (behind m ts) ++ said_at (behind m ts) t)
one_told m [] t = ap (λ xs. frame_line_at m ++ xs) (append-nil (said_at m t))
one_told m (x ∷ ts) t =
    ap (λ xs. frame_line_at m ++ (said_at m x ++ xs)) (one_told (stepped m) ts t)
    ∙ ap (λ xs. frame_line_at m ++ xs) (sym (append_assoc (said_at m x) (listing (stepped m) ts) _))
    ∙ sym (append_assoc (frame_line_at m) (said_at m x ++ listing (stepped m) ts) _)

one_behind : (m : MachineState) (ts : List Text) (t : Text) → behind m (ts ++ t ∷ []) ≡ stepped (behind m ts)
one_behind m [] t = refl
one_behind m (x ∷ ts) t = one_behind (stepped m) ts t

-- a step with this text told
told_on : (job : JobState) (m n : MachineState) (a b c d : Option Text) (text : Text) → HasTold job m a b → n ≡ stepped m → Appends b c (frame_line_at m) → Appends c d (said_at m text) → HasTold job n a d
told_on job m n a b c d text h is frame said =
    let start : MachineState = beginning_of job in
    record {
      texts = h.texts ++ text ∷ [];
      at = one_behind start h.texts text ∙ ap stepped h.at ∙ sym is;
      told =
          subst (Appends a d) (ap (λ v. listing start h.texts ++ (frame_line_at v ++ said_at v text)) (sym h.at) ∙ sym (one_told start h.texts text))
          (Appends-trans a b d _ _ h.told (Appends-trans b c d _ _ frame said));
    }

-- the text of a message that the step sends
said_all : (m : MachineState) (text : Text) → m.point.number < (stepped m).point.number → said_at m text ≡ text
said_all m text less = let yes : nat_lt m.point.number (stepped m).point.number ≡ true = lt-ltb m.point.number (stepped m).point.number less in ap (λ b. if b then text else []) yes

abbrev no_text : Text
no_text = []

either_none : (b : Bool) → (if b then no_text else no_text) ≡ no_text
either_none true = refl
either_none false = refl

said_none : (m : MachineState) → said_at m no_text ≡ no_text
said_none m = either_none (nat_lt m.point.number (stepped m).point.number)

pub told_message : (job : JobState) (m n : MachineState) (a b c d : Option Text) (text : Text) → HasTold job m a b → n ≡ stepped m → (stepped m).point.number ≡ m.point.number + 1 → Appends b c (frame_line_at m) → Appends c d text → HasTold job n a d
told_message job m n a b c d text h is number frame said =
    told_on job m n a b c d text h is frame (subst (Appends c d) (sym (said_all m text (omega (arith, number)))) said)

pub told_still : (job : JobState) (m n : MachineState) (a b c : Option Text) → HasTold job m a b → n ≡ stepped m → Appends b c (frame_line_at m) → HasTold job n a c
told_still job m n a b c h is frame =
    told_on job m n a b c c [] h is frame (subst (Appends c c) (sym (said_none m)) (Appends-nil c))

-- where the controller has ended all is told
pub told_all : (job : JobState) (m : MachineState) (a b c : Option Text) → HasTold job m a b → HasEnded m → Appends b c (frame_line_at m) → IsTold job a c
told_all job m a b c h ended frame = record {
  last = m;
  ended = ended;
  told = record {
    texts = h.texts;
    at = h.at;
    told =
        subst (Appends a c) (ap (λ xs. listing (beginning_of job) h.texts ++ xs) (line_at_none m ended.halts) ∙ append-nil (listing (beginning_of job) h.texts))
        (Appends-trans a b c _ _ h.told frame);
  };
}

-- before the first step nothing is told
pub told_nothing : (job : JobState) (m : MachineState) (got : Option Text) → m ≡ beginning_of job → HasTold job m got got
told_nothing job m got is = record {
  texts = [];
  at = sym is;
  told = Appends-nil got;
}
