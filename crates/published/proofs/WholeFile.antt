-- The lines of a file, one after the other: what those from a place on say, after the ones before it, is what all say.
use mathlib.Core.Path.{◌≡◌, refl, sym, ap, ◌∙◌}
use mathlib.Core.Bool.{true, false, cond, ◌||◌, or-false}
use mathlib.Core.List.{List, [], ◌∷◌, ◌++◌, append-nil, append_assoc}
use Rattle.std.specs.Prelude.{Option, None, Some, is_some}
use Prim.Native.Nat.{ℕ, zero, suc, ◌+◌, ◌≤◌, ◌<◌}
use native.Mathlib.Numerals.{add-one}
use native.Mathlib.Omega.{arith}
use borrow.Author.Tests.{ne_eqb}
use lib.ListN.{length, drop}
use Rattle.texts.specs.Lines.{lines_of}
use Rattle.texts.specs.Ends.{until_end}
use Rattle.texts.proofs.FirstLine.{line_at, lines_past}
use Rattle.records.specs.Records.{Record}
use Rattle.records.specs.Judged.{Judged, dropped, keeping, by_count, judged, judged_all}
use Rattle.published.specs.LeapSecondsList.{passes, holds, expires, malformed, line_read, is_expiry, is_malformed}
use Rattle.published.specs.LeapSecondsList.{first_malformed, with_record, records_in, expiry_or, first_expiry, last_offset}
use Rattle.published.specs.LeapSecondsList.{table_with, bad_list, of_records, of_lines}
use Rattle.published.specs.Places.{first_line}
use Rattle.published.proofs.LineKinds.{end-within}

-- the offset that was judged last is that of the last record
judged-offset : (j : Judged) (r : Record) → (judged j r).offset ≡ r.offset
judged-offset j r = go j.count
  where
    go : (n : ℕ) → (by_count n (dropped j r) (keeping j r)).offset ≡ r.offset
    go zero = refl
    go (suc n) = refl

pub last-judged : (j : Judged) (rs : List Record) → (judged_all j rs).offset ≡ last_offset j.offset rs
unfolding judged_all last_offset
last-judged j [] = refl
last-judged j (r ∷ rs) = last-judged (judged j r) rs ∙ ap (λ n. last_offset n rs) (judged-offset j r)

-- the first of two expiries
abbrev or_later : Option ℕ → Option ℕ → Option ℕ
or_later (Some ntp) later = Some ntp
or_later None later = later

only_one : (e : Option ℕ) → or_later e None ≡ e
only_one (Some ntp) = refl
only_one None = refl

none_held : (e : Option ℕ) → is_some e ≡ false → e ≡ None
none_held (Some ntp) d = cc
none_held None d = refl

-- the lines before `at` hold the records `past` and the expiry, if any; none of them is malformed; the line at `at` has
-- the number `line`
pub record ReadTo (s : List ℕ) (past : List Record) (expiry : Option ℕ) (line at : ℕ) : Type 0 where
  pub numbers : first_malformed false 1 (lines_of s) ≡ first_malformed (is_some expiry) line (lines_of (drop at s))
  pub records : records_in (lines_of s) ≡ past ++ records_in (lines_of (drop at s))
  pub expires_by : first_expiry (lines_of s) ≡ or_later expiry (first_expiry (lines_of (drop at s)))
  pub some_line : 1 ≤ line
  pub few : line ≤ at + 1
  pub within : at ≤ length s + 1

pub nothing_read : (s : List ℕ) → ReadTo s [] None 1 0
nothing_read s = record {
  numbers = refl;
  records = refl;
  expires_by = refl;
  some_line = omega arith;
  few = omega arith;
  within = omega arith;
}

module _ {s : List ℕ} {past : List Record} {expiry : Option ℕ} {line at : ℕ} (r : ReadTo s past expiry line at) where
  -- no line is left
  module _ (h : length s ≤ at) where
    none_malformed : first_malformed false 1 (lines_of s) ≡ 0
    unfolding first_malformed
    none_malformed = r.numbers ∙ ap (first_malformed (is_some expiry) line) (lines_past s at h)

    all_records : records_in (lines_of s) ≡ past
    unfolding records_in
    all_records = r.records ∙ ap (λ ls. past ++ records_in ls) (lines_past s at h) ∙ append-nil past

    the_expiry : first_expiry (lines_of s) ≡ expiry
    unfolding first_expiry
    the_expiry = r.expires_by ∙ ap (λ ls. or_later expiry (first_expiry ls)) (lines_past s at h) ∙ only_one expiry

    pub all_read : of_records (length past) (table_with (expiry) past) ≡ of_lines (lines_of s)
    all_read = rw (none_malformed, all_records, the_expiry)

  module _ (inside : at < length s) where
    abbrev this : List ℕ
    this = first_line (drop at s)

    abbrev end : ℕ
    end = at + until_end (drop at s)

    abbrev left : List (List ℕ)
    left = lines_of (drop (end + 1) s)

    numbers_on : first_malformed false 1 (lines_of s)
        ≡ cond (is_malformed (is_some expiry) (line_read this)) line (first_malformed (is_some expiry || is_expiry (line_read this)) (suc line) left)
    unfolding first_malformed
    numbers_on = r.numbers ∙ ap (first_malformed (is_some expiry) line) (line_at s at inside)

    records_on : records_in (lines_of s) ≡ past ++ with_record (line_read this) (records_in left)
    unfolding records_in
    records_on = r.records ∙ ap (λ ls. past ++ records_in ls) (line_at s at inside)

    expiry_on : first_expiry (lines_of s) ≡ or_later expiry (expiry_or (line_read this) (first_expiry left))
    unfolding first_expiry
    expiry_on = r.expires_by ∙ ap (λ ls. or_later expiry (first_expiry ls)) (line_at s at inside)

    refused_by : is_malformed (is_some expiry) (line_read this) ≡ true → bad_list line ≡ of_lines (lines_of s)
    refused_by e =
        let is : first_malformed false 1 (lines_of s) ≡ line = numbers_on ∙ rw e in
        rw (is, ne_eqb line 0 (λ z. omega (arith, z, r.some_line)))

    pub refused_there : malformed ≡ line_read this → bad_list line ≡ of_lines (lines_of s)
    refused_there e = refused_by (ap (is_malformed (is_some expiry)) (sym e))

    pub refused_again : (n : ℕ) → expires n ≡ line_read this → is_some expiry ≡ true → bad_list line ≡ of_lines (lines_of s)
    refused_again n e d = refused_by (ap (is_malformed (is_some expiry)) (sym e) ∙ d)

    pub line_passes : passes ≡ line_read this → ReadTo s past expiry (line + 1) (end + 1)
    line_passes e = record {
      numbers = numbers_on ∙ rw (← e, add-one line, or-false (is_some expiry));
      records = records_on ∙ rw (← e);
      expires_by = expiry_on ∙ rw (← e);
      some_line = omega arith;
      few = omega (arith, r.few);
      within = omega (arith, end-within s at (omega arith));
    }

    pub line-holds : (x : Record) → holds x ≡ line_read this → ReadTo s (past ++ (x ∷ [])) expiry (line + 1) (end + 1)
    line-holds x e = record {
      numbers = numbers_on ∙ rw (← e, add-one line, or-false (is_some expiry));
      records = records_on ∙ rw (← e, append_assoc);
      expires_by = expiry_on ∙ rw (← e);
      some_line = omega arith;
      few = omega (arith, r.few);
      within = omega (arith, end-within s at (omega arith));
    }

    pub line_expires : (n : ℕ) → expires n ≡ line_read this → is_some expiry ≡ false → ReadTo s past (Some n) (line + 1) (end + 1)
    line_expires n e d = record {
      numbers = numbers_on ∙ rw (← e, d, add-one line);
      records = records_on ∙ rw (← e);
      expires_by = expiry_on ∙ rw (← e, none_held expiry d);
      some_line = omega arith;
      few = omega (arith, r.few);
      within = omega (arith, end-within s at (omega arith));
    }
