-- Conversions of counts by a list of leap-second entries, over exact integers. Counts are in nanoseconds.
use Rattle.std.specs.Prelude.{cond, List, ℕ, ◌+◌, ◌*◌, ◌/◌, ℤ, pos, negsuc, ◌+ℤ◌, ◌-ℤ◌, ◌*ℤ◌}
use Rattle.std.specs.Int.Signed.{lt_z}
use Rattle.refusals.specs.Outcome.{Outcome, refused, value_in, then, changed}
use Rattle.counts.specs.Exact.{count_of, up, down}
use Rattle.counts.specs.Units.{second, unix_offset}
use Rattle.scales.specs.Scales.{tai_minus_gps}
use Rattle.tables.specs.Entries.{Entry, offset_at}

-- E: 1972-01-01 to 1980-01-06
abbrev pub E : ℕ
E = 252_892_800 * second

-- 1972-01-01 to the GLONASS epoch
abbrev pub glonass_epoch : ℕ
glonass_epoch = 757_371_600 * second

-- whole seconds in nanoseconds
abbrev pub in_nanos : ℤ → ℤ
in_nanos n = n *ℤ pos second

-- an exact result where it is a count, and else d
abbrev pub count_or : ℕ → ℤ → ℕ
count_or d z = value_in d (count_of z)

-- 9 where the offset used last is below −2,147,483,629
abbrev pub in_range : ℤ → Outcome ℕ → Outcome ℕ
in_range n a = cond (lt_z n (negsuc 2_147_483_628)) (refused 9) a

-- UTC = GPS − (n − 19) s + E
abbrev pub utc_at_offset : ℤ → ℕ → Outcome ℕ
utc_at_offset n gps = in_range n (count_of (pos gps -ℤ in_nanos (n -ℤ pos 19) +ℤ pos E))

-- GPS to UTC: n = lookup(GPS + 19 s)
abbrev pub gps_to_utc : List Entry → ℕ → Outcome ℕ
gps_to_utc es gps = then (up tai_minus_gps gps) (λ tai. utc_at_offset (offset_at es tai) gps)

-- a = UTC − E + 19 s, or 0 if that is no count
abbrev pub first_reading : ℕ → ℕ
first_reading utc = count_or 0 (pos utc -ℤ pos E +ℤ in_nanos (pos 19))

-- b = UTC − E + n1 s, or a if that is no count
abbrev pub second_reading : ℕ → ℤ → ℕ → ℕ
second_reading utc n1 a = count_or a (pos utc -ℤ pos E +ℤ in_nanos n1)

-- the TAI reading that is looked up last: n1 = lookup(a), then b
abbrev pub last_reading : List Entry → ℕ → ℕ
last_reading es utc =
    let a = first_reading utc in
    second_reading utc (offset_at es a) a

-- GPS = UTC − E + (n − 19) s
abbrev pub gps_at_offset : ℤ → ℕ → Outcome ℕ
gps_at_offset n utc = in_range n (count_of (pos utc -ℤ pos E +ℤ in_nanos (n -ℤ pos 19)))

-- UTC to GPS: n = lookup(b)
abbrev pub utc_to_gps : List Entry → ℕ → Outcome ℕ
utc_to_gps es utc = gps_at_offset (offset_at es (last_reading es utc)) utc

-- ---- the other scales are steps before and after
abbrev pub glonass_to_gps : List Entry → ℕ → Outcome ℕ
glonass_to_gps es glonass = then (up glonass_epoch glonass) (utc_to_gps es)

abbrev pub gps_to_glonass : List Entry → ℕ → Outcome ℕ
gps_to_glonass es gps = then (gps_to_utc es gps) (down glonass_epoch)

abbrev pub unix_to_utc : ℤ → Outcome ℕ
unix_to_utc s = count_of (in_nanos (s -ℤ pos unix_offset))

-- the whole Unix seconds of a UTC count
abbrev pub utc_to_unix : ℕ → ℤ
utc_to_unix utc = pos (utc / second + unix_offset)

abbrev pub unix_to_gps : List Entry → ℤ → Outcome ℕ
unix_to_gps es s = then (unix_to_utc s) (utc_to_gps es)

abbrev pub gps_to_unix : List Entry → ℕ → Outcome ℤ
gps_to_unix es gps = changed utc_to_unix (gps_to_utc es gps)
