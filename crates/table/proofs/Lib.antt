mod Tests
mod Cut
