mod Demanded
