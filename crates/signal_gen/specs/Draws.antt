-- The generator's numbers, and what a line is made by.
use Rattle.std.specs.Prelude.{ℕ, ◌+◌, ◌*◌, ◌/◌, ◌%◌, ◌^◌}
use Rattle.signal_gen.specs.declared.draw.Draw.{Draw}

-- the number after this one
abbrev pub next_number : ℕ → ℕ
next_number number = (1664525 * number + 1013904223) % 2 ^ 32

-- the number is cut into three: which slot a line is about, what it does there, and what else it has
abbrev pub drawn : ℕ → Draw
drawn number = record { slot = (number / 65536) % 4; turn = (number / 65536 / 4) % 8; rest = number / 65536 / 32 }
