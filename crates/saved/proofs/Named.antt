-- The word of each part, by the name of its place.
use Rattle.std.proofs.Common.{◌≡◌, ℕ, zero, suc, ◌+◌, ◌*◌, ◌<◌, refl, sym, ap, ◌∙◌, arith, lt-ltb}
use Rattle.sysreg.specs.declared.regs.Regime.TheVariants.{El1, El2, El3}
use Rattle.sysreg.specs.declared.regs.Register.TheVariants.{Sctlr, Tcr, Ttbr0, Ttbr1, Scr, Hcr}
use Rattle.sysreg.specs.declared.regs.Register.TheVariants.{Mair, Vbar, Elr, Spsr, Esr, Far, Vpidr, Vmpidr, Par}
use Rattle.cpu.specs.Core.{reg_of}
use Rattle.saved.specs.Places.{HINTS, HINT-PA, ENTRIES, ENTRY-GENERATION, ENTRY-ATTRIBUTES, ENTRY-PA}
use Rattle.saved.specs.WordsOf.{word_of}
use Rattle.saved.specs.NamedPlaces.{registers_named, general_named, parts_named, hints_named, entries_named, tallies_named}
use Rattle.saved.proofs.Saving.{general_word, hint_words, entry_words}

pub registers : registers_named
unfolding word_of
registers c (Sctlr El1) = refl
registers c (Sctlr El2) = refl
registers c (Sctlr El3) = refl
registers c (Tcr El1) = refl
registers c (Tcr El2) = refl
registers c (Tcr El3) = refl
registers c (Ttbr0 El1) = refl
registers c (Ttbr0 El2) = refl
registers c (Ttbr0 El3) = refl
registers c Ttbr1 = refl
registers c Scr = refl
registers c Hcr = refl
registers c (Mair El1) = refl
registers c (Mair El2) = refl
registers c (Mair El3) = refl
registers c (Vbar El1) = refl
registers c (Vbar El2) = refl
registers c (Vbar El3) = refl
registers c (Elr El1) = refl
registers c (Elr El2) = refl
registers c (Elr El3) = refl
registers c (Spsr El1) = refl
registers c (Spsr El2) = refl
registers c (Spsr El3) = refl
registers c (Esr El1) = refl
registers c (Esr El2) = refl
registers c (Esr El3) = refl
registers c (Far El1) = refl
registers c (Far El2) = refl
registers c (Far El3) = refl
registers c Vpidr = refl
registers c Vmpidr = refl
registers c Par = refl

pub generals : general_named
unfolding reg_of
generals c n h = general_word c n h ∙ sym (rw (lt-ltb n 31 h))

pub parts : parts_named
unfolding word_of
parts c =
    record {
      pc = refl;
      nzcv = refl;
      daif = refl;
      spsel = refl;
      level = refl;
      unprivileged = refl;
      flushes = refl;
      drops = refl;
      epoch = refl;
      last = refl;
      abort = refl;
      generation = refl;
      asid = refl;
      fetch = refl;
      fetch_page = refl;
      fetch_level = refl;
      fetch_pa = refl;
    }

pub hints : hints_named
hints c i h =
    record {
      key = (let z : HINTS + i * 2 ≡ HINTS + i * 2 + 0 = omega arith in ap (word_of c) z) ∙ hint_words c i 0 h (omega arith);
      pa = (let z : HINT-PA + i * 2 ≡ HINTS + i * 2 + 1 = omega arith in ap (word_of c) z) ∙ hint_words c i 1 h (omega arith);
    }

pub entries : entries_named
entries c j h =
    record {
      tag = (let z : ENTRIES + j * 4 ≡ ENTRIES + j * 4 + 0 = omega arith in ap (word_of c) z) ∙ entry_words c j 0 h (omega arith);
      generation = (let z : ENTRY-GENERATION + j * 4 ≡ ENTRIES + j * 4 + 1 = omega arith in ap (word_of c) z) ∙ entry_words c j 1 h (omega arith);
      attributes = (let z : ENTRY-ATTRIBUTES + j * 4 ≡ ENTRIES + j * 4 + 2 = omega arith in ap (word_of c) z) ∙ entry_words c j 2 h (omega arith);
      pa = (let z : ENTRY-PA + j * 4 ≡ ENTRIES + j * 4 + 3 = omega arith in ap (word_of c) z) ∙ entry_words c j 3 h (omega arith);
    }

past : (l : ℕ) → suc (suc (suc (suc l))) < 4 → ⊥
past l h = omega arith

pub tallies : tallies_named
unfolding word_of
tallies c zero h = record { hits = refl; walks = refl }
tallies c (suc zero) h = record { hits = refl; walks = refl }
tallies c (suc (suc zero)) h = record { hits = refl; walks = refl }
tallies c (suc (suc (suc zero))) h = record { hits = refl; walks = refl }
tallies c (suc (suc (suc (suc l)))) h = absurd (past l h)
