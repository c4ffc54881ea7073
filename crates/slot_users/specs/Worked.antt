-- A letting-go, worked: of two users one is left, and the frame stays.
use Rattle.std.specs.Prelude.{◌≡◌, refl, replicate}
use Rattle.slot_users.specs.Users.{let_go_lent, of_held, change}

one_left : let_go_lent (replicate 16 (record { users = 2; frame = 7 })) 3 ≡ change 3 (record { users = 1; frame = 7 })
unfolding let_go_lent of_held
one_left = refl
