-- 01's sample session: what is typed, and the whole of what is printed.
use Rattle.std.specs.Prelude.{ℕ, List}
use Rattle.ground.specs.Texts.{ascii}

abbrev pub sample_input : List ℕ
sample_input = ascii "marks 2\nin 01\nin 10\nin 11\nrecv 11 10:05\nrecv 01 2:30\ngone 11 0:05\nrecv 00 4:00\nend\n"

abbrev pub sample_output : List ℕ
sample_output = ascii "class 3\nlines 2\n01 2:30\n1- 10:00\ntotal 12:30\n"
