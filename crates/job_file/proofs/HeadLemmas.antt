-- Line by line to the job of a text.
use Rattle.std.proofs.Common.{◌≡◌, ℕ, ◌+◌, List, [], ◌∷◌, ◌++◌, length, refl, sym, ap, ◌∙◌, append_assoc, arith, inl, inr}
use Rattle.std.specs.Prelude.{Bool, true, false, ◌||◌, cond, Option, Some, None, Result, Ok, Err}
use Rattle.std.specs.List.{before_first, after_first}
use Rattle.std.proofs.lemmas.List.{append-nil}
use Rattle.std.proofs.lemmas.List.Elements.{filter_map-append}
use Rattle.std.proofs.lemmas.Grind.{flat_map-append}
use Rattle.std.proofs.lemmas.List.Sums.{sum_by-append}
use Rattle.std.proofs.lemmas.List.Folds.{list_any-append}
use Rattle.std.proofs.Math.Nat.{add-zero, zero-add}
use Rattle.text_lines.specs.Words.{Text}
use Rattle.job_file.specs.Options.{◌>>=◌}
use Rattle.job_file.specs.Lines.{Said, blank, script, channel, start, terminal, action, control, fault, faults, series, timed_action, timed_control, timed_fault, said, said_in}
use Rattle.job_file.specs.HeadLines.{Head, head_of, may_stand, are_lawful}
use Rattle.job_file.specs.Drafts.{with_line}
use Rattle.job_file.specs.TimedLines.{nothing_yet}
use Rattle.job_file.specs.Spans.{span_count}
use Rattle.job_file.specs.Spelled.{Written, joined_lines, is_script, with_line_above, parted, all_said, lawful, written_of, written}
use Rattle.text_lines.specs.Lines.{is_line_end, lines_of}
use Rattle.job_file.specs.Errors.{IsOfLine}
use Rattle.job_file.specs.JobRanges.{IsFit}
use Rattle.job_file.specs.Reading.{stands, TakesLine, IsJobRefusal, IsLineInRange}
use Rattle.job_file.specs.declared.drafts.Taken.{Taken}
use Rattle.job_file.specs.declared.drafts.Taken.TheVariants as taken
use Rattle.job_file.specs.declared.error.Refusal.{Refusal}
use Rattle.job_file.specs.declared.error.Refusal.TheVariants as refusal
use Rattle.job_file.specs.declared.error.JobError.{JobError}
use Rattle.job_file.specs.declared.error.JobError.TheVariants as error
use Rattle.job_file.proofs.FitLemmas.{fit_with}
use Rattle.job_file.proofs.LineLemmas.{first_line, text_again}

-- the job of the lines that are left, behind lines that said this
abbrev pub job_behind : List Said → List Text → Option Written
job_behind above lines =
    parted lines >>= (λ parts. all_said parts.0 >>= (λ said. lawful above said >>= (λ heads.
    written_of (head_of (above ++ heads)) (joined_lines parts.1))))

script_line : (above : List Said) (line : Text) (lines : List Text) → is_script (said line) ≡ true
    → job_behind above (line ∷ lines) ≡ written_of (head_of above) (joined_lines lines)
script_line above line lines e = rw (e, append-nil) refl

bad_line : (above : List Said) (line : Text) (lines : List Text) → is_script (said line) ≡ false → stands (said line) (head_of above) ≡ false
    → job_behind above (line ∷ lines) ≡ None
bad_line above line lines e bad = rw e (by_parts (parted lines))
  where
    by_said : (o : Option Said) (rest : Option (List Said)) (behind : List Text) → stands o (head_of above) ≡ false
        → ((o >>= (λ s. rest >>= (λ ss. Some (s ∷ ss)))) >>= (λ said. lawful above said >>= (λ heads. written_of (head_of (above ++ heads)) (joined_lines behind)))) ≡ None
    by_said None rest behind not = refl
    by_said (Some s) None behind not = refl
    by_said (Some s) (Some ss) behind not = rw not refl

    by_parts : (o : Option (List Text × List Text))
        → ((o >>= (λ (parts : List Text × List Text). Some (with_line_above line parts))) >>= (λ parts. all_said parts.0 >>= (λ said. lawful above said >>= (λ heads. written_of (head_of (above ++ heads)) (joined_lines parts.1))))) ≡ None
    by_parts None = refl
    by_parts (Some parts) = by_said (said line) (all_said parts.0) parts.1 bad

good_line : (above : List Said) (line : Text) (lines : List Text) (s : Said) → said line ≡ Some s → is_script (Some s) ≡ false → may_stand s (head_of above) ≡ true
    → job_behind above (line ∷ lines) ≡ job_behind (above ++ s ∷ []) lines
good_line above line lines s is e good = rw (is, e) (by_parts (parted lines))
  where
    by_lawful : (b : Bool) (ss : List Said) (behind : List Text)
        → (cond b (Some (s ∷ ss)) None >>= (λ heads. written_of (head_of (above ++ heads)) (joined_lines behind)))
        ≡ (cond b (Some ss) None >>= (λ heads. written_of (head_of ((above ++ s ∷ []) ++ heads)) (joined_lines behind)))
    by_lawful true ss behind = rw append_assoc refl
    by_lawful false ss behind = refl

    by_said : (rest : Option (List Said)) (behind : List Text)
        → ((rest >>= (λ ss. Some (s ∷ ss))) >>= (λ said. lawful above said >>= (λ heads. written_of (head_of (above ++ heads)) (joined_lines behind))))
        ≡ (rest >>= (λ said. lawful (above ++ s ∷ []) said >>= (λ heads. written_of (head_of ((above ++ s ∷ []) ++ heads)) (joined_lines behind))))
    by_said None behind = refl
    by_said (Some ss) behind = rw good (by_lawful (are_lawful (above ++ s ∷ []) ss) ss behind)

    by_parts : (o : Option (List Text × List Text))
        → ((o >>= (λ (parts : List Text × List Text). Some (with_line_above line parts))) >>= (λ parts. all_said parts.0 >>= (λ said. lawful above said >>= (λ heads. written_of (head_of (above ++ heads)) (joined_lines parts.1)))))
        ≡ (o >>= (λ parts. all_said parts.0 >>= (λ said. lawful (above ++ s ∷ []) said >>= (λ heads. written_of (head_of ((above ++ s ∷ []) ++ heads)) (joined_lines parts.1)))))
    by_parts None = refl
    by_parts (Some parts) = rw is (by_said (all_said parts.0) parts.1)

-- no line is left
no_line : (above : List Said) → job_behind above (lines_of []) ≡ job_behind above []
unfolding said_in
no_line above = refl

or_false : (b : Bool) → (b || false) ≡ b
or_false true = refl
or_false false = refl

or_true : (b : Bool) → (b || true) ≡ true
or_true true = refl
or_true false = refl

-- one more line in a head
pub head_with : (above : List Said) (s : Said) → head_of (above ++ s ∷ []) ≡ with_line s (head_of above)
head_with above blank = simp (filter_map-append, flat_map-append, sum_by-append, list_any-append, or_false, add-zero, append-nil)
head_with above script = simp (filter_map-append, flat_map-append, sum_by-append, list_any-append, or_false, add-zero, append-nil)
head_with above (channel n) = simp (filter_map-append, flat_map-append, sum_by-append, list_any-append, or_false, add-zero, append-nil)
head_with above (start n) = simp (filter_map-append, flat_map-append, sum_by-append, list_any-append, or_false, add-zero, append-nil)
head_with above (terminal n) = simp (filter_map-append, flat_map-append, sum_by-append, list_any-append, or_false, add-zero, append-nil)
head_with above (action number address text) = simp (filter_map-append, flat_map-append, sum_by-append, list_any-append, or_false, add-zero, append-nil)
head_with above (control number text) = simp (filter_map-append, flat_map-append, sum_by-append, list_any-append, or_false, add-zero, append-nil)
head_with above (fault number f) = simp (filter_map-append, flat_map-append, sum_by-append, list_any-append, or_false, add-zero, append-nil)
head_with above (faults span f) = simp (filter_map-append, flat_map-append, sum_by-append, list_any-append, or_false, add-zero, append-nil)
head_with above (timed_action moment address text) = simp (filter_map-append, flat_map-append, sum_by-append, list_any-append, or_false, add-zero, append-nil)
head_with above (timed_control moment text) = simp (filter_map-append, flat_map-append, sum_by-append, list_any-append, or_false, add-zero, append-nil)
head_with above (timed_fault occasion f) = simp (filter_map-append, flat_map-append, sum_by-append, list_any-append, or_true, add-zero, append-nil)
head_with above (series s) =
    simp (filter_map-append, flat_map-append, sum_by-append, list_any-append, or_false, append-nil)
    (ap (λ n. record (with_line (series s) (head_of above)) { from_series = (head_of above).from_series + n }) (zero-add (span_count s.span)))

-- the job of a text that is left, behind lines that said this
abbrev pub job_left : List Said → Text → Option Written
job_left above text = job_behind above (lines_of text)

-- the text that is left behind a first line
left_behind : (above : List Said) (text : Text) → (lines : List Text) × (lines_of text ≡ before_first is_line_end text ∷ lines) × (joined_lines lines ≡ after_first is_line_end text)
    × (((heads : List Said) → job_behind heads lines ≡ job_left heads (after_first is_line_end text)))
left_behind above text =
    elim (first_line text) [
      | inl more ↦ (lines_of (after_first is_line_end text), more, text_again (after_first is_line_end text), λ heads. refl)
      | inr last ↦ ([], last.0, sym last.1, λ heads. rw last.1 (sym (no_line heads)))
    ]

pub at_script : (above : List Said) (text : Text) → is_script (said (before_first is_line_end text)) ≡ true
    → job_left above text ≡ written_of (head_of above) (after_first is_line_end text)
at_script above text e =
    let l = left_behind above text in
    ap (job_behind above) l.1 ∙ script_line above (before_first is_line_end text) l.0 e ∙ ap (written_of (head_of above)) l.2

pub at_bad : (above : List Said) (text : Text) → is_script (said (before_first is_line_end text)) ≡ false → stands (said (before_first is_line_end text)) (head_of above) ≡ false
    → job_left above text ≡ None
at_bad above text e bad =
    let l = left_behind above text in
    ap (job_behind above) l.1 ∙ bad_line above (before_first is_line_end text) l.0 e bad

pub at_good : (above : List Said) (text : Text) (s : Said) → said (before_first is_line_end text) ≡ Some s → is_script (Some s) ≡ false → may_stand s (head_of above) ≡ true
    → job_left above text ≡ job_left (above ++ s ∷ []) (after_first is_line_end text)
at_good above text s is e good =
    let l = left_behind above text in
    ap (job_behind above) l.1 ∙ good_line above (before_first is_line_end text) l.0 s is e good ∙ l.3 (above ++ s ∷ [])

pub written_left : (text : Text) → written text ≡ job_left [] text
unfolding written
written_left text = refl

pub nothing_left : (above : List Said) (text : Text) → length text ≡ 0 → job_left above text ≡ None
nothing_left above [] e = no_line above
nothing_left above (b ∷ text) e = absurd (omega arith)

module _ (text rest line behind : Text) (above : List Said) (old new : Head) (shows : old ≡ head_of above) (left : written text ≡ job_left above rest)
    (first : line ≡ before_first is_line_end rest) (after : behind ≡ after_first is_line_end rest) where
  -- the line of the script
  pub script_taken : (r : Result Taken Refusal) → r ≡ Ok taken.Script → TakesLine (said line) old new r → written text ≡ written_of new behind
  script_taken r is takes =
      let t : TakesLine (said line) old new (Ok taken.Script) = rw is at takes in
      let e : is_script (said (before_first is_line_end rest)) ≡ true = rw first at t.0 in
      left ∙ at_script above rest e ∙ rw (t.1, shows, after) refl

  pub script_fits : (r : Result Taken Refusal) → r ≡ Ok taken.Script → TakesLine (said line) old new r → IsFit old → IsFit new
  script_fits r is takes fit = let t : TakesLine (said line) old new (Ok taken.Script) = rw is at takes in rw t.1 fit

  -- another line
  pub line_taken : (r : Result Taken Refusal) → r ≡ Ok taken.Line → TakesLine (said line) old new r → IsLineInRange (said line) → IsFit old
      → (x : List Said) × (new ≡ head_of x) × (written text ≡ job_left x behind) × IsFit new
  line_taken r is takes range fit = go (said line) refl (rw is at takes) range
    where
      go : (o : Option Said) → said line ≡ o → TakesLine o old new (Ok taken.Line) → IsLineInRange o → (x : List Said) × (new ≡ head_of x) × (written text ≡ job_left x behind) × IsFit new
      go None says t r = absurd (cc)
      go (Some s) says t r = (
        above ++ s ∷ [],
        t.2 ∙ ap (with_line s) shows ∙ sym (head_with above s),
        left ∙ at_good above rest s (rw first at says) t.0 (rw shows at t.1) ∙ rw after refl,
        rw t.2 (fit_with s old r t.1 fit),
      )

  -- a line that was refused
  pub line_refused : (n : ℕ) (r : Result Taken Refusal) (why : Refusal) (e : JobError) → r ≡ Err why → TakesLine (said line) old new r → IsOfLine n why e → IsJobRefusal (written text) e
  line_refused n r (refusal.Line f) (error.Line m g) is takes of =
      let t : TakesLine (said line) old new (Err (refusal.Line f)) = rw is at takes in
      left ∙ at_bad above rest (rw first at t.0) (rw (first, shows) at t.1)
  line_refused n r (refusal.Line f) (error.Script cause place) is takes of = absurd of
  line_refused n r (refusal.Line f) (error.Assembly m g) is takes of = absurd of
  line_refused n r (refusal.Line f) (error.Loading m g) is takes of = absurd of
  line_refused n r (refusal.Line f) (error.Inserts m) is takes of = absurd of
  line_refused n r (refusal.Line f) error.Memory is takes of = absurd of
  line_refused n r refusal.Memory (error.Line m g) is takes of = absurd of
  line_refused n r refusal.Memory (error.Script cause place) is takes of = absurd of
  line_refused n r refusal.Memory (error.Assembly m g) is takes of = absurd of
  line_refused n r refusal.Memory (error.Loading m g) is takes of = absurd of
  line_refused n r refusal.Memory (error.Inserts m) is takes of = absurd of
  line_refused n r refusal.Memory error.Memory is takes of = tt

pub fit_at_first : (h : Head) → h ≡ record { channels = []; starts = []; addresses = []; actions = []; plan = []; from_series = 0; timed = nothing_yet } → IsFit h
fit_at_first h e = rw e (record { channels = tt; starts = tt; addresses = refl; actions = refl; timed = record { whens = refl; faults = refl } })
