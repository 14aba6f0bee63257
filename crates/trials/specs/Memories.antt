-- Loads, stores and the regions' parts of the memory. "Memory is big-endian" (document 01).
use Rattle.std.specs.Prelude.{ℕ, List, [], ◌∷◌}
use Rattle.v8.specs.declared.LoadOp.TheVariants.{Ld, Ldub, Lduh, Ldsb, Ldsh}
use Rattle.v8.specs.declared.StoreOp.TheVariants.{St, Stb, Sth}
use Rattle.trials.specs.Case.{Row, ◌gives◌, loaded, stored, begins, yields, leaves}

-- four bytes, after four others
abbrev pub loaded_bytes : List ℕ
loaded_bytes = 0x11 ∷ 0x22 ∷ 0x33 ∷ 0x44 ∷ 0xFE ∷ 0x80 ∷ 0x01 ∷ 0x7F ∷ []

-- twelve bytes that stores write among
abbrev pub stored_bytes : List ℕ
stored_bytes = 0xA0 ∷ 0xA1 ∷ 0xA2 ∷ 0xA3 ∷ 0xA4 ∷ 0xA5 ∷ 0xA6 ∷ 0xA7 ∷ 0xA8 ∷ 0xA9 ∷ 0xAA ∷ 0xAB ∷ []

-- three regions' sizes
abbrev pub three_sizes : List ℕ
three_sizes = 16 ∷ 8 ∷ 4096 ∷ []

abbrev pub memory_rows : List Row
memory_rows =
    -- words, and bytes and halves without a sign
    loaded Ld loaded_bytes 0 gives yields 0x11223344
    ∷ loaded Ld loaded_bytes 4 gives yields 0xFE80017F
    ∷ loaded Ldub loaded_bytes 4 gives yields 0xFE
    ∷ loaded Ldub loaded_bytes 5 gives yields 0x80
    ∷ loaded Ldub loaded_bytes 6 gives yields 0x1
    ∷ loaded Ldub loaded_bytes 7 gives yields 0x7F
    ∷ loaded Lduh loaded_bytes 4 gives yields 0xFE80
    ∷ loaded Lduh loaded_bytes 6 gives yields 0x17F
    -- bytes and halves with a sign
    ∷ loaded Ldsb loaded_bytes 4 gives yields 0xFFFFFFFE
    ∷ loaded Ldsb loaded_bytes 5 gives yields 0xFFFFFF80
    ∷ loaded Ldsb loaded_bytes 6 gives yields 0x1
    ∷ loaded Ldsb loaded_bytes 7 gives yields 0x7F
    ∷ loaded Ldsh loaded_bytes 4 gives yields 0xFFFFFE80
    ∷ loaded Ldsh loaded_bytes 6 gives yields 0x17F
    -- stores: the value's low bytes, the most significant first, and the bytes beside them as they were
    ∷ stored St 0x12345678 4 stored_bytes gives leaves (0xA0 ∷ 0xA1 ∷ 0xA2 ∷ 0xA3 ∷ 0x12 ∷ 0x34 ∷ 0x56 ∷ 0x78 ∷ 0xA8 ∷ 0xA9 ∷ 0xAA ∷ 0xAB ∷ [])
    ∷ stored Sth 0x12345678 4 stored_bytes gives leaves (0xA0 ∷ 0xA1 ∷ 0xA2 ∷ 0xA3 ∷ 0x56 ∷ 0x78 ∷ 0xA6 ∷ 0xA7 ∷ 0xA8 ∷ 0xA9 ∷ 0xAA ∷ 0xAB ∷ [])
    ∷ stored Sth 0x12345678 6 stored_bytes gives leaves (0xA0 ∷ 0xA1 ∷ 0xA2 ∷ 0xA3 ∷ 0xA4 ∷ 0xA5 ∷ 0x56 ∷ 0x78 ∷ 0xA8 ∷ 0xA9 ∷ 0xAA ∷ 0xAB ∷ [])
    ∷ stored Stb 0x12345678 5 stored_bytes gives leaves (0xA0 ∷ 0xA1 ∷ 0xA2 ∷ 0xA3 ∷ 0xA4 ∷ 0x78 ∷ 0xA6 ∷ 0xA7 ∷ 0xA8 ∷ 0xA9 ∷ 0xAA ∷ 0xAB ∷ [])
    -- at both ends of the memory
    ∷ stored St 0x12345678 0 stored_bytes gives leaves (0x12 ∷ 0x34 ∷ 0x56 ∷ 0x78 ∷ 0xA4 ∷ 0xA5 ∷ 0xA6 ∷ 0xA7 ∷ 0xA8 ∷ 0xA9 ∷ 0xAA ∷ 0xAB ∷ [])
    ∷ stored Stb 0x12345678 11 stored_bytes gives leaves (0xA0 ∷ 0xA1 ∷ 0xA2 ∷ 0xA3 ∷ 0xA4 ∷ 0xA5 ∷ 0xA6 ∷ 0xA7 ∷ 0xA8 ∷ 0xA9 ∷ 0xAA ∷ 0x78 ∷ [])
    -- each region's part begins after the parts of all lower regions; after the last one the memory ends
    ∷ begins three_sizes 0 gives yields 0
    ∷ begins three_sizes 1 gives yields 16
    ∷ begins three_sizes 2 gives yields 24
    ∷ begins three_sizes 3 gives yields 4120
    ∷ []
