-- Line by line to the first fault of a job's text.
use Rattle.std.proofs.Common.{◌≡◌, ℕ, ◌+◌, ◌≤◌, List, [], ◌∷◌, ◌++◌, length, refl, sym, ap, ◌∙◌, append_assoc, arith, inl, inr}
use Rattle.std.specs.Prelude.{Bool, true, false, ◌&&◌, ◌⊎◌, if◌then◌else◌, Option, Some, None, Result, Ok, Err, IfErr}
use Rattle.std.specs.List.{position_or_len, before_first, after_first}
use Rattle.std.proofs.lemmas.List.{append-nil, length-append, length-drop}
use Rattle.text_lines.specs.Words.{Text, words, has_bytes}
use Rattle.job_file.specs.Options.{◌>>=◌}
use Rattle.job_file.specs.Lines.{Said, blank, script, channel, start, terminal, action, control, fault, faults, series, timed_action, timed_control, timed_fault, said, said_in}
use Rattle.job_file.specs.HeadLines.{Head, head_of, may_stand, are_lawful, is_none_yet}
use Rattle.job_file.specs.Drafts.{with_line}
use Rattle.job_file.specs.Spelled.{joined_lines, is_script, all_said}
use Rattle.text_lines.specs.Lines.{is_line_end, lines_of}
use Rattle.job_file.specs.Reading.{TakesLine}
use Rattle.job_file.specs.Errors.{IsOfLine}
use Rattle.job_file.specs.Faults.{Reached, IsJobHead, IsFirstFault, IsLineRefused, IsScriptRefused, are_line_words, line_fault, fault_at, takes_room}
use Rattle.job_file.specs.declared.drafts.Taken.{Taken}
use Rattle.job_file.specs.declared.drafts.Taken.TheVariants as taken
use Rattle.job_file.specs.declared.error.LineFault.{LineFault}
use Rattle.job_file.specs.declared.error.LineFault.TheVariants.{Order}
use Rattle.job_file.specs.declared.error.Refusal.{Refusal}
use Rattle.job_file.specs.declared.error.Refusal.TheVariants as refusal
use Rattle.job_file.specs.declared.error.JobError.{JobError}
use Rattle.job_file.specs.declared.error.JobError.TheVariants as error
use Rattle.job_file.proofs.LineLemmas.{first_line, text_again}
use Rattle.job_file.proofs.HeadLemmas.{head_with}

-- how far a text was read: lines that are well, the head that they make, the lines and the text that are left
pub record IsReadTo (text rest : Text) (head : Head) (line : ℕ) : Type 0 where
  pub at : Reached text
  pub says : head ≡ head_of at.above
  pub left : (at.rest ≡ lines_of rest) ⊎ ((at.rest ≡ []) × (rest ≡ []))
  pub counted : length at.before + 1 ≡ line

pub read_none : (text : Text) (head : Head) → head ≡ head_of [] → IsReadTo text text head 1
read_none text head says = record {
  at = record { before = []; above = []; rest = lines_of text; all = refl; says = refl; lawful = refl };
  says = says;
  left = inl refl;
  counted = refl;
}

lawful-push : (pre above : List Said) (s : Said) → are_lawful pre above ≡ true → may_stand s (head_of (pre ++ above)) ≡ true → are_lawful pre (above ++ s ∷ []) ≡ true
lawful-push pre [] s lawful stands = let here : may_stand s (head_of pre) ≡ true = rw (append-nil pre) at stands in rw here refl
lawful-push pre (x ∷ above) s lawful stands = go (may_stand x (head_of pre)) refl lawful (lawful-push (pre ++ x ∷ []) above s)
  where
    go : (b : Bool) → may_stand x (head_of pre) ≡ b → (b && are_lawful (pre ++ x ∷ []) above) ≡ true
        → (are_lawful (pre ++ x ∷ []) above ≡ true → may_stand s (head_of ((pre ++ x ∷ []) ++ above)) ≡ true → are_lawful (pre ++ x ∷ []) (above ++ s ∷ []) ≡ true)
        → are_lawful pre ((x ∷ above) ++ s ∷ []) ≡ true
    go true first rest more =
        let later : may_stand s (head_of ((pre ++ x ∷ []) ++ above)) ≡ true = rw (append_assoc pre (x ∷ []) above) stands in
        rw first (more rest later)
    go false first rest more = cc

said-push : (before : List Text) (above : List Said) (line : Text) (s : Said) → all_said before ≡ Some above → said line ≡ Some s → all_said (before ++ line ∷ []) ≡ Some (above ++ s ∷ [])
said-push [] [] line s says is = rw is refl
said-push [] (a ∷ above) line s says is = cc
said-push (x ∷ before) above line s says is = go (said x) refl (all_said before) refl says (λ ys. said-push before ys line s)
  where
    go : (m : Option Said) → said x ≡ m → (n : Option (List Said)) → all_said before ≡ n → (m >>= (λ y. n >>= (λ ys. Some (y ∷ ys)))) ≡ Some above
        → ((ys : List Said) → all_said before ≡ Some ys → said line ≡ Some s → all_said (before ++ line ∷ []) ≡ Some (ys ++ s ∷ [])) → all_said ((x ∷ before) ++ line ∷ []) ≡ Some (above ++ s ∷ [])
    go None e n f says rest = cc
    go (Some y) e None f says rest = cc
    go (Some y) e (Some ys) f says rest = rw (e, rest ys f is) (ap (λ (m : Option (List Said)). m >>= (λ zs. Some (zs ++ s ∷ []))) says)

-- one more line that is well
with_one : (text : Text) (at : Reached text) (line : Text) (lines : List Text) (s : Said) → at.rest ≡ line ∷ lines → said line ≡ Some s
    → may_stand s (head_of at.above) ≡ true → Reached text
with_one text at line lines s rest is stands = record {
  before = at.before ++ line ∷ [];
  above = at.above ++ s ∷ [];
  rest = lines;
  all = at.all ∙ (rw (rest, append_assoc at.before (line ∷ []) lines) refl);
  says = said-push at.before at.above line s at.says is;
  lawful = lawful-push [] at.above s at.lawful stands;
}

-- a line takes at least a byte
pub behind_shorter : (text : Text) → 1 ≤ length text → length (after_first is_line_end text) + 1 ≤ length text
behind_shorter text some = rw (length-drop (position_or_len is_line_end text + 1) text) (omega (arith, some))

-- the lines behind the next
record Next (rest : Text) (lines : List Text) : Type 0 where
  behind : List Text
  are : lines ≡ before_first is_line_end rest ∷ behind
  left : (behind ≡ lines_of (after_first is_line_end rest)) ⊎ ((behind ≡ []) × (after_first is_line_end rest ≡ []))
  text : joined_lines behind ≡ after_first is_line_end rest

next : (rest : Text) (lines : List Text) → lines ≡ lines_of rest → Next rest lines
next rest lines are =
    elim (first_line rest) [
      | inl more ↦ record { behind = lines_of (after_first is_line_end rest); are = are ∙ more; left = inl refl; text = text_again (after_first is_line_end rest) }
      | inr last ↦ record { behind = []; are = are ∙ last.0; left = inr (refl, last.1); text = sym last.1 }
    ]

next_of : (text rest : Text) (head : Head) (n : ℕ) → (i : IsReadTo text rest head n) → 1 ≤ length rest → Next rest i.at.rest
next_of text rest head n i some =
    elim i.left [
      | inl are ↦ next rest i.at.rest are
      | inr none ↦ absurd (no_byte rest none.1 some)
    ]
  where
    no_byte : (rest : Text) → rest ≡ [] → 1 ≤ length rest → ⊥
    no_byte [] none some = omega arith
    no_byte (b ∷ rest) none some = cc

-- a line that is no empty one at the end
fault_line : (above : Head) (line : Text) (lines : List Text) → has_bytes line ≡ true → fault_at above (line ∷ lines) ≡ line_fault line above
fault_line above line [] some = rw some refl
fault_line above line (m ∷ lines) some = refl

has_fault : (line : Text) (above : Head) (why : LineFault) → line_fault line above ≡ Some why → has_bytes line ≡ true
unfolding said_in
has_fault [] above why is = cc
has_fault (b ∷ line) above why is = refl

has_room : (line : Text) → takes_room (said line) ≡ true → has_bytes line ≡ true
unfolding said_in
has_room [] is = cc
has_room (b ∷ line) is = refl

is_script_line : (o : Option Said) → is_script o ≡ true → o ≡ Some script
is_script_line None is = cc
is_script_line (Some blank) is = cc
is_script_line (Some script) is = refl
is_script_line (Some (channel n)) is = cc
is_script_line (Some (start n)) is = cc
is_script_line (Some (terminal n)) is = cc
is_script_line (Some (action number address text)) is = cc
is_script_line (Some (control number text)) is = cc
is_script_line (Some (fault number f)) is = cc
is_script_line (Some (faults span f)) is = cc
is_script_line (Some (series s)) is = cc
is_script_line (Some (timed_action moment address text)) is = cc
is_script_line (Some (timed_control moment text)) is = cc
is_script_line (Some (timed_fault occasion f)) is = cc

module _ (text rest line behind : Text) (old new : Head) (n : ℕ) (i : IsReadTo text rest old n) (some : 1 ≤ length rest)
    (first : line ≡ before_first is_line_end rest) (after : behind ≡ after_first is_line_end rest) where
  at_line : (lines : List Text) × (i.at.rest ≡ line ∷ lines) × ((lines ≡ lines_of behind) ⊎ ((lines ≡ []) × (behind ≡ []))) × (joined_lines lines ≡ behind)
  at_line = let x = next_of text rest old n i some in (x.behind, rw first x.are, rw after x.left, rw after x.text)

  -- another line
  pub read_one : (r : Result Taken Refusal) → r ≡ Ok taken.Line → TakesLine (said line) old new r → IsReadTo text behind new (n + 1)
  unfolding with_one
  read_one r is takes = go (said line) refl (rw is at takes)
    where
      go : (o : Option Said) → said line ≡ o → TakesLine o old new (Ok taken.Line) → IsReadTo text behind new (n + 1)
      go None says t = absurd (cc)
      go (Some s) says t =
          let l = at_line in
          let stands : may_stand s (head_of i.at.above) ≡ true = rw i.says at t.1 in
          record {
            at = with_one text i.at line l.0 s l.1 says stands;
            says = t.2 ∙ ap (with_line s) i.says ∙ sym (head_with i.at.above s);
            left = l.2;
            counted = ap (λ (k : ℕ). k + 1) (length-append i.at.before (line ∷ []) ∙ i.counted);
          }

  -- the line of the script
  pub read_script : (r : Result Taken Refusal) → r ≡ Ok taken.Script → TakesLine (said line) old new r → are_line_words (words line) ≡ true → IsJobHead text new n behind
  read_script r is takes well =
      let t : TakesLine (said line) old new (Ok taken.Script) = rw is at takes in
      let l = at_line in
      record {
        at = i.at;
        says = t.1 ∙ i.says;
        last = line;
        lines = l.0;
        rest = l.1;
        words = well;
        is = t.0;
        counted = i.counted;
        behind = l.3;
      }

  -- a line that was refused
  pub read_refused : (why : Refusal) (e : JobError) → IsLineRefused line old why → IsOfLine n why e → IsFirstFault text e
  read_refused (refusal.Line f) (error.Line m g) is of =
      let l = at_line in
      let here : line_fault line (head_of i.at.above) ≡ Some f = rw i.says at is in
      let all : fault_at (head_of i.at.above) i.at.rest ≡ Some f = rw (l.1, fault_line (head_of i.at.above) line l.0 (has_fault line old f is)) here in
      record { at = i.at; counted = i.counted ∙ sym of.0; fault = rw of.1 all }
  read_refused (refusal.Line f) (error.Script cause place) is of = absurd of
  read_refused (refusal.Line f) (error.Assembly m g) is of = absurd of
  read_refused (refusal.Line f) (error.Loading m g) is of = absurd of
  read_refused (refusal.Line f) (error.Inserts m) is of = absurd of
  read_refused (refusal.Line f) error.Memory is of = absurd of
  read_refused refusal.Memory (error.Line m g) is of = absurd of
  read_refused refusal.Memory (error.Script cause place) is of = absurd of
  read_refused refusal.Memory (error.Assembly m g) is of = absurd of
  read_refused refusal.Memory (error.Loading m g) is of = absurd of
  read_refused refusal.Memory (error.Inserts m) is of = absurd of
  read_refused refusal.Memory error.Memory is of =
      let l = at_line in
      let here : line_fault line (head_of i.at.above) ≡ None = rw i.says at is.0 in
      record {
        at = i.at;
        well = rw (l.1, fault_line (head_of i.at.above) line l.0 (has_room line is.1)) here;
        room = rw l.1 is.1;
      }

-- no line is left
pub read_all : (text rest : Text) (head : Head) (n : ℕ) → IsReadTo text rest head n → length rest ≡ 0 → IsFirstFault text (error.Line n Order)
read_all text [] head n i none =
    record {
      at = i.at;
      counted = i.counted;
      fault =
          elim i.left [
            | inl are ↦ rw are refl
            | inr none ↦ rw none.0 refl
          ];
    }
read_all text (b ∷ rest) head n i none = absurd (omega arith)

-- what is wrong with the line of the script: that no line above it names the channel
at_last : (text : Text) (head : Head) (n : ℕ) (behind : Text) → (h : IsJobHead text head n behind)
    → fault_at (head_of h.at.above) h.at.rest ≡ (if is_none_yet (head_of h.at.above).channels then Some Order else None)
at_last text head n behind h =
    let says = is_script_line (said h.last) h.is in
    let some : has_bytes h.last ≡ true = has_room h.last (rw says refl) in
    rw (h.rest, fault_line (head_of h.at.above) h.last h.lines some, h.words, says) refl

-- what the script answers
pub script_refused : (text : Text) (head : Head) (n : ℕ) (behind : Text) (e : JobError) → IsJobHead text head n behind → IsScriptRefused head n behind e → IsFirstFault text e
script_refused text head n behind (error.Line m why) h is =
    let none : is_none_yet (head_of h.at.above).channels ≡ true = rw h.says at is.0 in
    record { at = h.at; counted = h.counted ∙ sym is.1; fault = at_last text head n behind h ∙ (rw (none, is.2) refl) }
script_refused text head n behind (error.Script cause place) h is =
    record { line = n; below = behind; reached = record { head = head; is = h; named = is.0 }; fault = is.1; stands = is.2 }
script_refused text head n behind (error.Assembly m why) h is =
    let i = is.2 in
    record { below = behind; reached = rw is.1 (record { head = head; is = h; named = is.0 }); tree = i.tree; spells = i.spells; fault = i.fault }
script_refused text head n behind (error.Loading m why) h is =
    let i = is.2 in
    record { below = behind; reached = rw is.1 (record { head = head; is = h; named = is.0 }); tree = i.tree; spells = i.spells; fault = i.fault }
script_refused text head n behind (error.Inserts m) h is = rw is.1 (record { head = head; below = behind; is = h; named = is.0; fault = is.2 })
script_refused text head n behind error.Memory h is =
    let named : is_none_yet (head_of h.at.above).channels ≡ false = rw h.says at is in
    record {
      at = h.at;
      well = at_last text head n behind h ∙ (rw named refl);
      room = rw (h.rest, is_script_line (said h.last) h.is) refl;
    }

-- what the reading of a job answers
pub first_fault : {T : Type 0} (text : Text) (head : Head) (n : ℕ) (behind : Text) (r : Result T JobError) → IsJobHead text head n behind
    → IfErr r (IsScriptRefused head n behind) → IfErr r (IsFirstFault text)
first_fault text head n behind (Ok x) h is = tt
first_fault text head n behind (Err e) h is = script_refused text head n behind e h is
