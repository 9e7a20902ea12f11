-- The limits, each once (this project's choices). Code that computes with one has a constant of the same name in capitals.
use Rattle.std.specs.Prelude.{ℕ, ◌^◌}

-- ---- what a message may have

-- words of an array, the command counted
abbrev pub max_message_words : ℕ
max_message_words = 65536

-- bytes of one word of an array
abbrev pub max_word_bytes : ℕ
max_word_bytes = 65536

-- bytes of all words of an array together
abbrev pub max_message_bytes : ℕ
max_message_bytes = 4194304

-- bytes of an inline line before its line feed
abbrev pub max_line_bytes : ℕ
max_line_bytes = 65536

-- digits of a count or a length
abbrev pub max_count_digits : ℕ
max_count_digits = 7

-- ---- what a request may have

-- bytes of a key or a name, which has at least one
abbrev pub max_name_bytes : ℕ
max_name_bytes = 1024

abbrev pub max_attribute_bytes : ℕ
max_attribute_bytes = 16384

abbrev pub max_filter_bytes : ℕ
max_filter_bytes = 4096

-- components of a vector in a request, which has at least one
abbrev pub max_components : ℕ
max_components = 4096

-- EF, at least 1
abbrev pub max_ef : ℕ
max_ef = 65536

-- COUNT, at least 1
abbrev pub max_count : ℕ
max_count = 65536

-- FILTER-EF
abbrev pub max_filter_ef : ℕ
max_filter_ef = 2147483647

-- M
abbrev pub min_m : ℕ
min_m = 4

abbrev pub max_m : ℕ
max_m = 256

-- the count of VRANDMEMBER, without its sign
abbrev pub max_picks : ℕ
max_picks = 65536

-- ---- what a text may nest

-- parentheses, negations and minus signs of a filter that are open at once
abbrev pub max_filter_depth : ℕ
max_filter_depth = 64

-- objects and arrays of an attribute within one another
abbrev pub max_json_depth : ℕ
max_json_depth = 64

-- ---- what a graph may have

-- bits of a vector; a request has fewer of them (`max_components`)
abbrev pub max_dimension : ℕ
max_dimension = 32768

-- a member's level
abbrev pub max_level : ℕ
max_level = 15

-- ---- what a store of the usual limits may have

-- members of a set
abbrev pub max_members : ℕ
max_members = 2 ^ 20

-- sets
abbrev pub max_keys : ℕ
max_keys = 65536

-- members of all sets together
abbrev pub max_members_in_all : ℕ
max_members_in_all = 2 ^ 21

-- accepted changes since it was made
abbrev pub max_changes : ℕ
max_changes = 2 ^ 62

-- ---- what a schedule may have

-- actors, at least one
abbrev pub max_actors : ℕ
max_actors = 64

-- bytes of a line
abbrev pub max_schedule_line_bytes : ℕ
max_schedule_line_bytes = 1048576
