-- Each part is stored behind those before it, and together they fill the room.
use Rattle.std.proofs.Common.{ap, ◌∙◌, [], ◌∷◌, ℤ}
use Rattle.std.proofs.lemmas.List.Edits.{sets}
use mir.Syntax.{w16}
use mir.Facts.{to_z-of_z}
use borrow.Author.Rules.{rules}
use Rattle.image.specs.Parts.{bytes_of_all}
use Rattle.image.specs.Image.{unsigned}
use Rattle.image_write.proofs.Whole.{Long, image_is}
use Rattle.image_write.proofs.write.Goals as goal

pub returns : goal.returns
returns c =
    let s = c.args.state in
    let l : Long s = record { lsp_long = search rules; excitation_long = search rules; memory_long = search rules; fir_long = search rules; iir_long = search rules; residuals_long = search rules; gains_long = search rules; mark_small = search rules; sure_small = search rules } in
    image_is s l c.args.room.now c.put_words.new.room c.put_words-2.new.room c.put_words-3.new.room c.put_words-4.new.room c.put_words-5.new.room c.put_words-6.new.room c.put_longs.new.room c.put_floats.new.room c.put_floats-2.new.room c.requires
    c.put_words.ensures c.put_words-2.ensures c.put_words-3.ensures
    (c.put_words-4.ensures ∙ ap (λ (z : ℤ). sets c.put_words-3.new.room 348 (bytes_of_all 2 (unsigned 2 z ∷ []))) (to_z-of_z {w = w16} {z = s.sharpen_fixed} (search rules)))
    (c.put_words-5.ensures ∙ ap (λ (z : ℤ). sets c.put_words-4.new.room 350 (bytes_of_all 2 (unsigned 2 z ∷ []))) (to_z-of_z {w = w16} {z = s.last_half_lag} (search rules)))
    c.put_words-6.ensures c.put_longs.ensures c.put_floats.ensures c.put_floats-2.ensures
